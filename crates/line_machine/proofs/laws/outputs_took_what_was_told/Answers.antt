use Rattle.line_machine.proofs.Outputs.{outputs_took_what_was_told}
use Rattle.line_machine.proofs.laws.outputs_took_what_was_told.Goals as goal

pub returns : goal.returns
returns c = outputs_took_what_was_told
