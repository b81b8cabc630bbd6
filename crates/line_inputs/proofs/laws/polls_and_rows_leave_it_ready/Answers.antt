use Rattle.line_inputs.proofs.Staying.{same_ready}
use Rattle.line_inputs.proofs.laws.polls_and_rows_leave_it_ready.Goals as goal

pub returns : goal.returns
returns g c = λ before after s same ready. same_ready g.S.Store before after s same ready
