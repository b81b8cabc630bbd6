use Rattle.std.proofs.Common.{◌≡◌, ◌≤◌}
use Rattle.monitor_core.specs.Counting.{counted}
use Rattle.monitor_core.proofs.Sums.{SoFar}
use Rattle.monitor_core.proofs.monitor.Monitor.read.Given as goal

abbrev pub invariant-loop-number : goal.invariant-loop-number
invariant-loop-number l = (l.seat ≡ l.fn.seat) × (l.number ≤ l.fn.self.seats) × SoFar l.number l.fn.seat.number (counted l.fn.counter l.fn.seat) l.total
