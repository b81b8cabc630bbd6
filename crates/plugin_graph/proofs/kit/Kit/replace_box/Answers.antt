use Rattle.std.proofs.lemmas.List.{map-set}
use Rattle.std.proofs.Common.{List, ap, sym, ◌∙◌, slice_set}
use Rattle.plugin_graph.specs.Kits.{boxes_of}
use Rattle.plugin_graph.specs.Loads.{Contents}
use Rattle.built_plugins.specs.declared.filter.Filter.{Filter}
use Rattle.plugin_graph.proofs.Acting.{same_filters, there_is_none}
use Rattle.plugin_graph.proofs.kit.Kit.replace_box.Goals as goal

pub returns-in-Some-clause-boxes : goal.returns-in-Some-clause-boxes
returns-in-Some-clause-boxes g c =
    let fs = c.args.self.now.parts.filters in
    map-set (λ f. f.plugged) fs c.args.at _ ∙ ap (slice_set (boxes_of fs) c.args.at) c.replace.ensures.after

pub returns-in-Some-clause-contents : goal.returns-in-Some-clause-contents
returns-in-Some-clause-contents g c =
    let parts = c.args.self.now.parts in
    let with_filters : List Filter → Contents = λ fs. record { filters = fs; outputs = parts.outputs; targets = parts.targets; conditions = parts.conditions } in
    ap with_filters (same_filters parts.filters c.args.at c.in-Some.filter.now c.replace.new.dest (sym c.in-Some.ensures.value))

pub returns-in-None-clause-out : goal.returns-in-None-clause-out
returns-in-None-clause-out g c = absurd (there_is_none c.args.self.now.parts.filters c.args.at c.requires c.in-None.ensures.value)

pub returns-in-None-clause-boxes : goal.returns-in-None-clause-boxes
returns-in-None-clause-boxes g c = absurd (there_is_none c.args.self.now.parts.filters c.args.at c.requires c.in-None.ensures.value)
