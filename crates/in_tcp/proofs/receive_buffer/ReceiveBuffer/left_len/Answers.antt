use Rattle.std.proofs.Common.{arith}
use Rattle.in_tcp.proofs.Placed.{joined_next}
use Rattle.in_tcp.proofs.receive_buffer.ReceiveBuffer.left_len.Goals as goal

pub loop-at-preserved : goal.loop-at-preserved
loop-at-preserved c =
    let next = joined_next c.args.conn c.args.self.now.pieces c.loop-at.at c.mark.result c.mark.ensures in
    omega (arith, c.loop-at.invariant, c.saturating_add.ensures, c.count_from-count.ensures, c.min-len.ensures, next)
