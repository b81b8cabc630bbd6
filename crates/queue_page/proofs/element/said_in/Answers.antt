use Rattle.std.proofs.Common.{arith}
use Rattle.std.proofs.lemmas.Result.{err_from_is_err_and}
use Rattle.queue_page.proofs.BodyReads.{event_said, row_said, body_lost_event, body_lost_row}
use Rattle.queue_page.proofs.element.said_in.Goals as goal

pub returns-in_err-event : goal.returns-in_err-event
returns-in_err-event c =
    let p = err_from_is_err_and c.from_residual.result c.from_residual.ensures.1 in
    rw (p.1, p.2) (body_lost_event c.args.version c.args.body.now c.in_err-event.field-0.0 c.if-version-eq1.true (λ i. omega (arith, c.type_inv.body i)) c.in_err-event.ensures.at)

pub returns-in_err-row : goal.returns-in_err-row
returns-in_err-row c =
    let p = err_from_is_err_and c.from_residual-in_err-row.result c.from_residual-in_err-row.ensures.1 in
    rw (p.1, p.2) (body_lost_row c.args.version c.args.body.now c.in_err-row.field-0.0 c.if-version-eq1.false (λ i. omega (arith, c.type_inv.body i)) c.in_err-row.ensures.at)

pub returns-in_ok-event : goal.returns-in_ok-event
returns-in_ok-event c = event_said c.args.version c.args.body.now c.in_ok-event.event c.if-version-eq1.true c.in_ok-event.ensures.found c.in_ok-event.ensures.spelled c.in_ok-event.ensures.short

pub returns-in_ok-row : goal.returns-in_ok-row
returns-in_ok-row c = row_said c.args.version c.args.body.now c.in_ok-row.row.origin c.in_ok-row.row.event c.if-version-eq1.false c.in_ok-row.ensures.body
