use Rattle.std.proofs.Common.{arith, ◌+◌}
use Rattle.in_tcp.proofs.Placed.{total_next, total_split}
use Rattle.in_tcp.proofs.pieces.total_before.Goals as goal

pub overflow_add-total : goal.overflow_add-total
overflow_add-total c =
    let marks = c.args.marks.now.items in
    omega (arith, c.requires.fits, c.count-total.ensures, c.loop-at.invariant, total_next marks c.loop-at.at c.index.result.now (omega (arith, c.loop-at-test.true, c.requires.within)) c.index.ensures, total_split marks (c.loop-at.at + 1))

pub loop-at-preserved : goal.loop-at-preserved
loop-at-preserved c =
    let marks = c.args.marks.now.items in
    let next = total_next marks c.loop-at.at c.index.result.now (omega (arith, c.loop-at-test.true, c.requires.within)) c.index.ensures in
    omega (arith, c.loop-at.invariant, c.count-total.ensures, next)
