use Rattle.in_lines.proofs.Receiving.{received-lines}
use Rattle.in_lines.proofs.laws.received_lines_are_those_of_all_bytes.Goals as goal

pub returns : goal.returns
returns c = received-lines
