use Rattle.line_machine.proofs.Turning.{turns_end}
use Rattle.line_machine.proofs.turn_laws.turns_end.Goals as goal

pub returns : goal.returns
returns c = turns_end
