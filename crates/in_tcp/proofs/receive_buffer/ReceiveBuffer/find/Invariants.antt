use Rattle.in_tcp.specs.Held.{SameLines, size_of}
use Rattle.in_tcp.proofs.receive_buffer.ReceiveBuffer.find.Given as goal

abbrev pub invariant-loop-mark : goal.invariant-loop-mark
invariant-loop-mark l = SameLines l.fn.self l.self

abbrev pub decreases-loop-mark : goal.decreases-loop-mark
decreases-loop-mark l = size_of l.self.pieces
