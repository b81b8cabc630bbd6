-- What stands in a rack.
use Rattle.std.specs.Prelude.{ℕ, List}
use Rattle.foreign_parts.specs.Stocks.{Stock}
use Rattle.foreign_parts.specs.Shelves.{stocks, refusals}
use Rattle.foreign_parts.specs.declared.links.LinkPlace.{LinkPlace}
use Rattle.foreign_parts.specs.declared.rack.Rack.{Rack}
use Rattle.foreign_parts.specs.declared.plugged.PluggedFilter.{PluggedFilter}
use Rattle.foreign_parts.specs.declared.plugged.PluggedOutput.{PluggedOutput}

abbrev pub filters_of : {u v w x : _} → Rack u v w x → List Stock
filters_of r = stocks (λ p. p.number) r.filters.items

abbrev pub outputs_of : {u v w x : _} → Rack u v w x → List Stock
outputs_of r = stocks (λ p. p.number) r.outputs.items

-- the places of links
abbrev pub links_of : {u v w x : _} → Rack u v w x → List LinkPlace
links_of r = r.links.items

-- how many boxes were added so far, which is the number of the next
abbrev pub given_of : {u v w x : _} → Rack u v w x → ℕ
given_of r = r.given

-- what the boxes refuse, each by its place behind its name, where this is what a box refuses
abbrev pub filter_refusals : {u v w x : _} {R : Type 0} → (PluggedFilter u w → R) → Rack u v w x → List (List ℕ × List R)
filter_refusals refusal r = refusals refusal r.filters.items

abbrev pub output_refusals : {u v w x : _} {R : Type 0} → (PluggedOutput v x → R) → Rack u v w x → List (List ℕ × List R)
output_refusals refusal r = refusals refusal r.outputs.items
