use Rattle.std.proofs.Common.{◌≡◌}
use Rattle.pipeline_bus.specs.Ends.{sending}
use Rattle.bench_parts.proofs.parcels.hear.Given as goal

abbrev pub invariant-loop : goal.invariant-loop
invariant-loop l = (sending l.sender).sent ≡ (sending l.initial.sender).sent
