use Rattle.std.proofs.Common.{◌≡◌, length}
use Rattle.pipeline_bus.specs.Ends.{taking}
use Rattle.bench_parts.proofs.parcels.answer.Given as goal

abbrev pub invariant-loop-number : goal.invariant-loop-number
invariant-loop-number l = length (taking l.taker).given ≡ l.number
