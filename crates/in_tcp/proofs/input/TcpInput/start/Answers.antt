use Rattle.std.proofs.Common.{ap}
use Rattle.in_tcp.proofs.Standing.{stands_first}
use Rattle.in_tcp.proofs.input.TcpInput.start.Goals as goal

pub returns-clause-stands : goal.returns-clause-stands
returns-clause-stands c = λ came. stands_first came _ c.new.ensures.connections (ap (λ h. h.rests) c.new.ensures.held) (ap (λ h. h.pieces) c.new.ensures.held)
