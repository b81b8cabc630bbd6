use Rattle.line_machine.proofs.Settling.{steps_settle, opened_settles, rest_is_done, stop_is_stopped}
use Rattle.line_machine.proofs.laws.rest_is_done.Goals as goal

pub returns-clause-opened : goal.returns-clause-opened
returns-clause-opened c = opened_settles

pub returns-clause-kept : goal.returns-clause-kept
returns-clause-kept c = steps_settle

pub returns-clause-done : goal.returns-clause-done
returns-clause-done c = rest_is_done

pub returns-clause-stopped : goal.returns-clause-stopped
returns-clause-stopped c = stop_is_stopped
