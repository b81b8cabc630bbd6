use Rattle.std.proofs.Common.{sym, ap, ◌∙◌, slice_set}
use Rattle.event_tree.proofs.Puts.{slice_set-same}
use Rattle.plugin_graph.proofs.Acting.{same_table}
use Rattle.plugin_graph.proofs.parts.PartsPlugins.test.Goals as goal

pub returns-in-Some-clause-table : goal.returns-in-Some-clause-table
returns-in-Some-clause-table g c =
    let parts = c.args.self.now in
    same_table parts.filters parts.outputs parts.targets parts.conditions _
    (ap (slice_set parts.conditions c.args.number) c.test.ensures.same ∙ slice_set-same parts.conditions c.args.number c.in-Some.condition.now (sym c.in-Some.ensures.value))
