use Rattle.std.proofs.Common.{ℕ, List, length, ◌-◌}
use Rattle.bulk_replies.proofs.ChunkRuns.{Joined}
use Rattle.bulk_replies.proofs.chunks.are_whole.Given as goal

abbrev pub invariant-loop-at : goal.invariant-loop-at
invariant-loop-at l = (body : List ℕ) × Joined l.bytes l.at body

abbrev pub decreases-loop-at : goal.decreases-loop-at
decreases-loop-at l = length l.bytes - l.at
