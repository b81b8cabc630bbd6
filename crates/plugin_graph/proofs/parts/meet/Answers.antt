use Rattle.std.proofs.Common.{sym, ap, ◌∙◌, slice_set}
use Rattle.event_tree.proofs.Puts.{slice_set-same}
use Rattle.plugin_graph.proofs.Acting.{filter_meets}
use Rattle.plugin_graph.proofs.parts.meet.Goals as goal

pub returns-in-Some-clause-ok : goal.returns-in-Some-clause-ok
returns-in-Some-clause-ok g c = filter_meets _ c.args.filters.now c.args.at c.in-Some.filter.now c.args.event.now c.args.targets.now c.meet.new.event c.meet.new.targets c.args.to.now c.meet.new.to c.meet.result (sym c.in-Some.ensures.value) c.meet.ensures.ok

pub returns-in-Some-clause-same : goal.returns-in-Some-clause-same
returns-in-Some-clause-same g c =
    ap (slice_set c.args.filters.now c.args.at) c.meet.ensures.same
    ∙ slice_set-same c.args.filters.now c.args.at c.in-Some.filter.now (sym c.in-Some.ensures.value)
