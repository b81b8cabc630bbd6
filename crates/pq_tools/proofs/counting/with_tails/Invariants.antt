use Rattle.std.proofs.Common.{◌≡◌, ◌+◌, drop}
use Rattle.pq_tools.specs.Counts.{tail_rows}
use Rattle.pq_tools.proofs.counting.with_tails.Given as goal

abbrev pub invariant-loop-place : goal.invariant-loop-place
invariant-loop-place l = record { so_far : tail_rows l.tails l.pages + l.top ≡ l.rows + tail_rows (drop l.place l.tails) (drop l.place l.pages) }
