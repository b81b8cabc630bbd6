use Rattle.std.proofs.Common.{sym}
use Rattle.event_flow.proofs.Cells.{arrives}
use Rattle.event_flow.proofs.stepping.passes.Goals as goal

pub returns-then-skip-eq0 : goal.returns-then-skip-eq0
returns-then-skip-eq0 c = (arrives c.args.cell.now c.in-At.skip c.in-At.field-1 c.in-At.field-2 c.in-At.is c.if-skip-eq0.true, sym c.in-At.is)
