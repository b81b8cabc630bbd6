use Rattle.std.proofs.Common.{◌≡◌, ◌+◌, [], All, length, replicate}
use Rattle.monitor_core.specs.Kept.{unused}
use Rattle.monitor_core.specs.Counting.{counts}
use Rattle.monitor_core.proofs.monitor.Monitor.new.Given as goal

abbrev pub invariant-loop-number : goal.invariant-loop-number
invariant-loop-number l = (l.first.table_id ≡ l.table.shared.table_id) × (l.first.me ≡ (unused (l.number + 1), [])) × (length l.made + (l.number + 1) ≡ l.seats)
    × All (λ s. s.seat.table_id ≡ l.table.shared.table_id) l.made × All (λ s. counts s ≡ replicate 4 0) l.made

abbrev pub decreases-loop-number : goal.decreases-loop-number
decreases-loop-number l = l.number
