use Rattle.std.proofs.Common.{◌∙◌, ap}
use Rattle.line_core.specs.Batches.{stage_in}
use Rattle.line_core.proofs.BatchesStay.{stage_set}
use Rattle.line_core.proofs.summing.forget_batches.Goals as goal

pub loop-at-preserved : goal.loop-at-preserved
loop-at-preserved c =
    let l = c.loop-at in
    stage_set l.batches.items l.at c.index_mut.result.now c.forget_refusal.new.self c.index_mut.ensures.value (ap stage_in c.forget_refusal.ensures) ∙ l.invariant
