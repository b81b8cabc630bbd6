use Rattle.std.proofs.Common.{arith, string_bytes}
use Rattle.filters_mutate.proofs.Rows.{shown_next}
use Rattle.filters_mutate.proofs.lists.joined.Goals as goal

pub loop-item-preserved : goal.loop-item-preserved
loop-item-preserved c =
    let l = c.loop-item in
    shown_next c.args.separator.now (string_bytes l.text) (string_bytes c.add_shown.new.text) _ l.later c.args.items.now l.item-index c.item-item.result
    (omega (arith, c.loop-item-test.true)) c.item-item.is l.invariant c.in_ok-add_shown.ensures
