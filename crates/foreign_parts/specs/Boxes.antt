-- What checks see of the boxes that stand in a rack.
use Rattle.std.specs.Prelude.{◌≡◌, ℕ, List, Option}
use Rattle.config_tree.specs.Joining.{Entries}
use Rattle.config_tree.specs.declared.fault.SettingFault.{SettingFault}
use Rattle.foreign_parts.specs.Stocks.{Stock}
use Rattle.foreign_parts.specs.declared.boxes.BoxKind.{BoxKind}
use Rattle.foreign_parts.specs.declared.links.LinkPlace.{LinkPlace}
use Rattle.foreign_parts.specs.declared.boxes.BoxKind.TheVariants as kind

-- what boxes refuse, each by its place behind its name
abbrev pub Refusals : Type 0
Refusals = List (List ℕ × List (Entries → Option SettingFault))

-- what stands in a rack of one kind: how many boxes of each name, and what each of them refuses
pub record Stand : Type 0 where
  pub stocks : List Stock
  pub refusals : Refusals

-- what stands in a rack is left as it was
pub record Keeps {S : Type 0} (stand : S → BoxKind → Stand) (links : S → List LinkPlace) (old new : S) : Type 0 where
  pub stands : (k : BoxKind) → stand new k ≡ stand old k
  pub links_stand : links new ≡ links old

-- what stands in a rack, of each kind
abbrev pub stand_of : List Stock → Refusals → List Stock → Refusals → BoxKind → Stand
stand_of filters filter_refusals outputs output_refusals kind.Filter = record { stocks = filters; refusals = filter_refusals }
stand_of filters filter_refusals outputs output_refusals kind.Output = record { stocks = outputs; refusals = output_refusals }
