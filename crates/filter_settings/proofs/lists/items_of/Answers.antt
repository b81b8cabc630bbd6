use Rattle.std.proofs.Common.{◌+◌, ap, ◌∙◌, drop, arith, rules}
use Rattle.event_text.proofs.Going.{with_front, each_more}
use Rattle.event_text.specs.Options.{each_in}
use Rattle.filter_settings.proofs.lists.items_of.Goals as goal

pub loop-value-preserved : goal.loop-value-preserved
loop-value-preserved g c =
    let l = c.loop-value in
    let said = g.T.ListItem.said in
    ap (λ found. with_front found (each_in said (drop (l.value-index + 1) c.args.values.now))) c.in_ok-push.ensures.ok
    ∙ each_more said c.args.values.now l.value-index c.value-item.result c.in-Some.item l.found (omega (arith, c.loop-value-test.true)) c.value-item.is l.invariant (search rules)
