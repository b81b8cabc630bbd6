use Rattle.std.proofs.Common.{◌≡◌, map}
use Rattle.line_core.specs.Batches.{stage_in}
use Rattle.line_core.proofs.summing.forget_batches.Given as goal

abbrev pub invariant-loop-at : goal.invariant-loop-at
invariant-loop-at l = map stage_in l.batches.items ≡ map stage_in l.fn.batches.items
