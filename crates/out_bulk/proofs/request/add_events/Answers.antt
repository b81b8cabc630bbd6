use Rattle.std.proofs.Common.{sym, ◌∙◌}
use Rattle.out_bulk.proofs.RequestRuns.{sent_none, sent_more}
use Rattle.out_bulk.proofs.request.add_events.Goals as goal

pub loop-place-preserved-then-is_settled : goal.loop-place-preserved-then-is_settled
loop-place-preserved-then-is_settled c =
    let sent = sent_none _ _ _ _ _ _ _ c.loop-place.invariant.sent (sym c.if-is_settled.true ∙ c.is_settled.ensures) in
    record { sent = sent; kept = c.loop-place.invariant.kept }

pub loop-place-preserved : goal.loop-place-preserved
loop-place-preserved c =
    let sent = sent_more _ _ _ _ _ _ _ _ c.index-events-place.result c.loop-place-test.true c.index-events-place.is c.loop-place.invariant.sent (sym c.if-is_settled.false ∙ c.is_settled.ensures) c.in_ok-add_event.ensures.lines in
    record { sent = sent; kept = c.add_event.ensures.kept }
