use Rattle.std.proofs.Common.{◌+◌, ap, ◌∙◌, drop, arith, rules}
use Rattle.event_text.proofs.Going.{with_front, each_more}
use Rattle.event_text.specs.Options.{each_in}
use Rattle.filters_grok.specs.Settings.{field_patterns}
use Rattle.filters_grok.proofs.settings.compiled.Goals as goal

pub loop-field-preserved : goal.loop-field-preserved
loop-field-preserved c =
    let l = c.loop-field in
    let made = field_patterns c.args.rules.now in
    ap (λ found. with_front found (each_in made (drop (l.field-index + 1) c.args.fields.now))) c.in_ok-push.ensures.ok
    ∙ each_more made c.args.fields.now l.field-index c.field-item.result c.in-Some.patterns l.found (omega (arith, c.loop-field-test.true)) c.field-item.is l.invariant (search rules)
