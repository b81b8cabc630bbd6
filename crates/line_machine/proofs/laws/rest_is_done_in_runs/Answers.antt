use Rattle.line_machine.proofs.Joining.{rest_is_done_there, stop_is_stopped_there}
use Rattle.line_machine.proofs.laws.rest_is_done_in_runs.Goals as goal

pub returns-clause-done : goal.returns-clause-done
returns-clause-done c = rest_is_done_there

pub returns-clause-stopped : goal.returns-clause-stopped
returns-clause-stopped c = stop_is_stopped_there
