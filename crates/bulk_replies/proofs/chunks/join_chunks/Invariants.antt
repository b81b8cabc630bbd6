use Rattle.std.proofs.Common.{length, ◌-◌}
use Rattle.bulk_replies.proofs.ChunkRuns.{Joined}
use Rattle.bulk_replies.proofs.chunks.join_chunks.Given as goal

abbrev pub invariant-loop-at : goal.invariant-loop-at
invariant-loop-at l = Joined l.bytes l.at l.body.items

abbrev pub decreases-loop-at : goal.decreases-loop-at
decreases-loop-at l = length l.bytes - l.at
