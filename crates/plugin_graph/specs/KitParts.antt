-- What stands in the parts of a kit.
use Rattle.std.specs.Prelude.{map}
use Rattle.plugin_graph.specs.Loads.{Contents}
use Rattle.plugin_graph.specs.declared.parts.Parts.{Parts}

abbrev pub contents_in : {X : Type 0} → Parts X → Contents
contents_in p = record { filters = map (λ f. f.filter) p.filters; outputs = p.outputs; targets = p.targets; conditions = p.conditions }
