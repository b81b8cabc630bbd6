use Rattle.std.proofs.Common.{◌≡◌, ◌++◌, drop}
use Rattle.queue_core.specs.Opening.{tails_opened}
use Rattle.queue_core.proofs.opening.held_pages.Given as goal

abbrev pub invariant-loop-place : goal.invariant-loop-place
invariant-loop-place l = record { so_far : tails_opened l.folder l.tails l.pages ≡ l.held.items ++ tails_opened l.folder (drop l.place l.tails) (drop l.place l.pages) }
