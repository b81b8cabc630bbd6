use Rattle.in_tcp.proofs.Holding.{in_piece_given, in_rest_given}
use Rattle.in_tcp.proofs.receive_buffer.ReceiveBuffer.pass.Goals as goal

pub returns-then-next : goal.returns-then-next
returns-then-next c = in_rest_given c.args.self.now c.pass.new.self c.args.next.now c.requires c.if-next.true c.pass.ensures

pub returns-else-next : goal.returns-else-next
returns-else-next c = in_piece_given c.args.self.now c.shorten.new.self c.args.next.now c.requires c.if-next.false c.shorten.ensures
