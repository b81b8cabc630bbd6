use Rattle.std.proofs.Common.{◌≡◌, [], take}
use Rattle.in_tcp.specs.Held.{lines_in}
use Rattle.in_tcp.proofs.receive_buffer.ReceiveBuffer.holds.Given as goal

abbrev pub invariant-loop-place : goal.invariant-loop-place
invariant-loop-place l = lines_in l.self.rests (take l.place l.self.pieces) ≡ []
