use Rattle.std.proofs.Common.{◌+◌, ◌++◌, arith, sym, ap, subst, ◌∙◌}
use Rattle.bulk_replies.proofs.ChunkRuns.{Joined, joined_start, one_joined, last_joined, cut_joined, end_joined}
use Rattle.bulk_replies.proofs.chunks.join_chunks.Goals as goal

pub loop-at-init : goal.loop-at-init
loop-at-init c = subst (Joined c.args.bytes.now 0) (sym c.new-body.ensures.items) (joined_start c.args.bytes.now)

pub loop-at-smaller : goal.loop-at-smaller
loop-at-smaller c = let h = c.in-Chunk.ensures in omega (arith, c.loop-at-test.true, h.after, h.within.0)

pub loop-at-preserved : goal.loop-at-preserved
loop-at-preserved c = subst (Joined c.args.bytes.now (c.in-Chunk.chunk.end + 2)) (sym (c.in_ok-extend_from_slice-in-Chunk.ensures.items ∙ ap (λ t. c.loop-at.body.items ++ t) c.of.ensures)) (one_joined _ _ _ _ c.loop-at.invariant c.in-Chunk.ensures)

pub returns-in-Last : goal.returns-in-Last
returns-in-Last c = last_joined _ _ _ c.loop-at.invariant c.in-Last.ensures

pub returns-in-Cut : goal.returns-in-Cut
returns-in-Cut c = cut_joined _ _ _ c.loop-at.invariant c.in-Cut.ensures

pub returns : goal.returns
returns c = end_joined _ _ _ c.loop-at.invariant c.loop-at-test.false
