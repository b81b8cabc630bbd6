use Rattle.std.proofs.Common.{◌≡◌}
use Rattle.pipeline_bus.specs.Ends.{taking}
use Rattle.bench_parts.proofs.parcels.wait.Given as goal

abbrev pub invariant-loop : goal.invariant-loop
invariant-loop l = (taking l.taker).given ≡ (taking l.initial.taker).given
