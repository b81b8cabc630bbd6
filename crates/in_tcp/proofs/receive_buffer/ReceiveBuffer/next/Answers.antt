use Rattle.in_tcp.proofs.Giving.{gave_one}
use Rattle.in_tcp.proofs.receive_buffer.ReceiveBuffer.next.Goals as goal

pub returns : goal.returns
returns c = gave_one c.args.codec c.args.self.now c.find.new.self c.pass.new.self c.in-Some.next c.in_ok-event.event c.find.ensures.same c.pass.ensures c.in_ok-event.ensures
