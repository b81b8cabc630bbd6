use Rattle.std.proofs.Common.{◌++◌}
use Rattle.event_flow.specs.Marks.{marks, marks_of}
use Rattle.event_flow.proofs.Cells.{passed_by, arriving}
use Rattle.event_flow.proofs.stepping.step_cell.Goals as goal

pub returns-then-passes-clause-ok : goal.returns-then-passes-clause-ok
returns-then-passes-clause-ok g c = passed_by (g.K.Plugins.may c.args.kit.now) (g.K.Plugins.table c.args.kit.now) c.passes.result c.args.step c.args.cell.now c.passes.new.cell c.args.others.now c.passes.ensures c.if-passes.true c.requires.none

pub returns-clause-ok : goal.returns-clause-ok
returns-clause-ok g c =
    let table = g.K.Plugins.table c.args.kit.now in
    arriving c.meet_step.result c.passes.result (g.K.Plugins.may c.args.kit.now) table c.args.step c.args.cell.now c.passes.new.cell (marks_of table c.meet_step.new.cell ++ marks table c.meet_step.new.others) c.passes.ensures c.if-passes.false c.meet_step.ensures.ok
