use Rattle.std.proofs.Common.{◌+◌, ap, ◌∙◌, drop, arith, rules}
use Rattle.event_text.proofs.Going.{with_front, each_more}
use Rattle.event_text.specs.Options.{each_in}
use Rattle.filters_grok.specs.Settings.{pattern_of}
use Rattle.filters_grok.proofs.settings.patterns.Goals as goal

pub loop-text-preserved : goal.loop-text-preserved
loop-text-preserved c =
    let l = c.loop-text in
    let made = pattern_of c.args.rules.now in
    ap (λ found. with_front found (each_in made (drop (l.text-index + 1) c.args.texts.now))) c.in_ok-push.ensures.ok
    ∙ each_more made c.args.texts.now l.text-index c.text-item.result c.in-Some.pattern l.found (omega (arith, c.loop-text-test.true)) c.text-item.is l.invariant (search rules)
