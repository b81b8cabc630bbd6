use Rattle.std.proofs.Common.{◌≡◌, drop}
use Rattle.queue_core.specs.Writing.{some_open}
use Rattle.queue_core.proofs.writing.some_open.Given as goal

abbrev pub invariant-loop-place : goal.invariant-loop-place
invariant-loop-place l = record { so_far : some_open (drop l.place l.tails) ≡ some_open l.tails }
