use Rattle.std.proofs.Common.{arith, refl}
use Rattle.std.proofs.lemmas.Bool.{false≢true}
use Rattle.bulk_replies.proofs.ChunkRuns.{joined_start, one_joined, last_joined, cut_joined, end_joined}
use Rattle.bulk_replies.proofs.chunks.are_whole.Goals as goal

pub loop-at-init : goal.loop-at-init
loop-at-init c = (_, joined_start c.args.bytes.now)

pub loop-at-smaller : goal.loop-at-smaller
loop-at-smaller c = let h = c.in-Chunk.ensures in omega (arith, c.loop-at-test.true, h.after, h.within.0)

pub loop-at-preserved : goal.loop-at-preserved
loop-at-preserved c = (_, one_joined _ _ _ _ c.loop-at.invariant.1 c.in-Chunk.ensures)

pub returns-in-Last : goal.returns-in-Last
returns-in-Last c = (λ yes. (_, last_joined _ _ _ c.loop-at.invariant.1 c.in-Last.ensures), λ has. refl)

pub returns-in-Cut : goal.returns-in-Cut
returns-in-Cut c = (λ no. absurd (false≢true no), λ has. absurd (cut_joined _ _ _ c.loop-at.invariant.1 c.in-Cut.ensures has.0 has.1))

pub returns : goal.returns
returns c = (λ no. absurd (false≢true no), λ has. absurd (end_joined _ _ _ c.loop-at.invariant.1 c.loop-at-test.false has.0 has.1))
