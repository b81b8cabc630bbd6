use Rattle.line_machine.proofs.EndsLine.{answers_tell_ends}
use Rattle.line_machine.proofs.laws.answers_tell_ends.Goals as goal

pub returns : goal.returns
returns c = answers_tell_ends
