use Rattle.std.proofs.Common.{◌≡◌, ◌+◌, min, length, take}
use Rattle.in_tcp.specs.Lines.{line_limit}
use Rattle.in_tcp.specs.Rests.{bytes_of}
use Rattle.in_tcp.specs.Search.{joined_of}
use Rattle.in_tcp.proofs.receive_buffer.ReceiveBuffer.left_len.Given as goal

abbrev pub invariant-loop-at : goal.invariant-loop-at
invariant-loop-at l = l.len ≡ min line_limit (length (bytes_of l.self.rests l.conn) + length (joined_of l.conn (take l.at l.self.pieces)))
