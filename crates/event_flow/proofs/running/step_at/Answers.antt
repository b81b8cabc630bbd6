use Rattle.std.proofs.Common.{sym}
use Rattle.event_flow.proofs.Cells.{took}
use Rattle.event_flow.proofs.running.step_at.Goals as goal

pub returns-in-Some-clause-ok : goal.returns-in-Some-clause-ok
returns-in-Some-clause-ok g c = took c.step_cell.result (g.K.Plugins.may c.args.kit.now) (g.K.Plugins.table c.args.kit.now) c.args.step c.args.index c.args.cells.now c.step_cell.new.others c.in-Some.cell.now c.step_cell.new.cell (sym c.in-Some.ensures.value) c.step_cell.ensures.ok
