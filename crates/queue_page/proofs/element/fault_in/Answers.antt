use Rattle.std.proofs.Common.{arith}
use Rattle.queue_page.proofs.BodyReads.{event_stops_body, row_stops_body}
use Rattle.queue_page.proofs.element.fault_in.Goals as goal

pub returns-then-version-eq1 : goal.returns-then-version-eq1
returns-then-version-eq1 c = event_stops_body c.args.version c.args.body.now c.event_fault.result c.if-version-eq1.true (λ i. omega (arith, c.type_inv.body i)) c.event_fault.ensures.none c.event_fault.ensures.at

pub returns-else-version-eq1 : goal.returns-else-version-eq1
returns-else-version-eq1 c = row_stops_body c.args.version c.args.body.now c.row_fault.result c.if-version-eq1.false (λ i. omega (arith, c.type_inv.body i)) c.row_fault.ensures.none c.row_fault.ensures.at
