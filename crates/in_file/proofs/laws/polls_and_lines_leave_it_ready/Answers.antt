use Rattle.in_file.proofs.Staying.{kept_ready}
use Rattle.in_file.proofs.laws.polls_and_lines_leave_it_ready.Goals as goal

pub returns : goal.returns
returns g c = kept_ready g.S.Store
