use Rattle.std.proofs.Common.{◌+◌, ap, ◌∙◌, drop, arith, rules}
use Rattle.event_text.proofs.Going.{with_front, each_more}
use Rattle.event_text.specs.Options.{each_in}
use Rattle.filters_grok.specs.Settings.{definition}
use Rattle.filters_grok.proofs.settings.definitions.Goals as goal

pub loop-entry-preserved : goal.loop-entry-preserved
loop-entry-preserved c =
    let l = c.loop-entry in
    let made = definition in
    ap (λ found. with_front found (each_in made (drop (l.entry-index + 1) c.args.entries.now))) c.in_ok-push.ensures.ok
    ∙ each_more made c.args.entries.now l.entry-index c.entry-item.result c.in-Some.pair l.found (omega (arith, c.loop-entry-test.true)) c.entry-item.is l.invariant (search rules)
