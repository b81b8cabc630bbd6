use Rattle.std.proofs.Common.{◌+◌, ap, ◌∙◌, drop, arith, rules}
use Rattle.event_text.proofs.Going.{with_front, each_more}
use Rattle.event_text.specs.Options.{each_in}
use Rattle.filter_settings.specs.Readers.{at_field}
use Rattle.filter_settings.proofs.hashes.fields_of.Goals as goal

pub loop-entry-preserved : goal.loop-entry-preserved
loop-entry-preserved g c =
    let l = c.loop-entry in
    let said = at_field g.T.ListItem.said in
    ap (λ found. with_front found (each_in said (drop (l.entry-index + 1) c.args.entries.now))) c.in_ok-push.ensures.ok
    ∙ each_more said c.args.entries.now l.entry-index c.entry-item.result c.in-Some.field l.found (omega (arith, c.loop-entry-test.true)) c.entry-item.is l.invariant (search rules)
