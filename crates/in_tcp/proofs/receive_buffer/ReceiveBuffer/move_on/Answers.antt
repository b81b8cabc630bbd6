use Rattle.std.proofs.Common.{refl, sym, ◌∙◌}
use Rattle.in_tcp.specs.declared.receive_buffer.ReceiveBuffer.{ReceiveBuffer}
use Rattle.in_tcp.proofs.Among.{no_bytes}
use Rattle.in_tcp.proofs.Holding.{as_popped}
use Rattle.in_tcp.proofs.receive_buffer.ReceiveBuffer.move_on.Goals as goal

pub returns-then-is_empty-clause-same : goal.returns-then-is_empty-clause-same
returns-then-is_empty-clause-same c =
    let h = c.args.self.now in
    let new : ReceiveBuffer = record { rests = h.rests; pieces = c.pop.new.self } in
    let none = sym c.front_bytes-bytes.ensures ∙ no_bytes c.front_bytes-bytes.result.now c.if-is_empty.ensures in
    as_popped h new c.args.mark.now c.requires.front none c.requires.none refl c.pop.ensures
