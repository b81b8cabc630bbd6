use Rattle.std.proofs.Common.{arith, rules}
use Rattle.filter_settings.proofs.Steps.{tried_more}
use Rattle.filters_mutate.specs.Operations.{filled}
use Rattle.filters_mutate.proofs.fills.fill_all.Goals as goal

pub loop-field-preserved : goal.loop-field-preserved
loop-field-preserved c =
    let l = c.loop-field in
    tried_more (filled c.args.how) c.args.fields.now l.field-index c.field-item.result l.event c.fill_one.new.event c.args.event.now (omega (arith, c.loop-field-test.true)) c.field-item.is l.invariant (search rules)
