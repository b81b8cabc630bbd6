use Rattle.std.proofs.Common.{◌≡◌, ◌≤◌, ◌-◌}
use Rattle.pipeline_bus.specs.Ends.{sending}
use Rattle.pipeline_bus.specs.Parcels.{with_events}
use Rattle.bench_parts.proofs.parcels.send.Given as goal

abbrev pub invariant-loop-number : goal.invariant-loop-number
invariant-loop-number l = (with_events (sending l.sender).sent ≡ l.number) × (l.number ≤ l.parcels)

abbrev pub decreases-loop-number : goal.decreases-loop-number
decreases-loop-number l = l.parcels - l.number
