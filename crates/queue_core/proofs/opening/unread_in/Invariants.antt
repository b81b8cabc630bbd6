use Rattle.std.proofs.Common.{◌≡◌, ◌+◌, drop}
use Rattle.queue_core.specs.Opening.{unread_in, unread_of}
use Rattle.queue_core.proofs.opening.unread_in.Given as goal

abbrev pub invariant-loop-place : goal.invariant-loop-place
invariant-loop-place l = record { so_far : unread_in l.tails + unread_of l.top ≡ l.unread + unread_in (drop l.place l.tails) }
