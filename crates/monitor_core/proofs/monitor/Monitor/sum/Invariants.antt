use Rattle.std.proofs.Common.{◌≡◌, ◌≤◌, ◌*◌, ◌^◌, take, map, length}
use Rattle.monitor_core.specs.Places.{total_of}
use Rattle.monitor_core.specs.Counting.{counted}
use Rattle.monitor_core.proofs.monitor.Monitor.sum.Given as goal

abbrev pub invariant-loop-at : goal.invariant-loop-at
invariant-loop-at l = (l.seats ≡ l.fn.seats) × (l.at ≤ length l.fn.seats) × (l.total ≡ total_of (map (counted l.fn.counter) (take l.at l.fn.seats))) × (l.total.sum ≤ l.at * 2 ^ 64)
