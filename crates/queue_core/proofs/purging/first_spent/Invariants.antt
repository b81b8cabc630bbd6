use Rattle.std.proofs.Common.{◌≡◌, drop}
use Rattle.queue_core.specs.Calls.{spent_from}
use Rattle.queue_core.proofs.purging.first_spent.Given as goal

abbrev pub invariant-loop-place : goal.invariant-loop-place
invariant-loop-place l = record { so_far : spent_from l.place (drop l.place l.tails) ≡ spent_from 0 l.tails }
