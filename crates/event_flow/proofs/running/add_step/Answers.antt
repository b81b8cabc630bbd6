use Rattle.event_flow.specs.Marks.{StepsAll, marks_of}
use Rattle.event_flow.proofs.Cells.{put}
use Rattle.event_flow.proofs.running.add_step.Goals as goal

pub returns-clause-ok : goal.returns-clause-ok
returns-clause-ok g c =
    let table = g.K.Plugins.table c.args.kit.now in
    let may = g.K.Plugins.may c.args.kit.now in
    put table (StepsAll may table c.args.step (marks_of table c.args.cell)) c.append.result c.step_cell.new.cell c.step_cell.new.others c.args.out.now c.push.new.self c.append.new.self c.in_ok-step_cell.ensures.ok c.in_ok-push.ensures.ok c.append.ensures.ok
