use Rattle.line_machine.proofs.Ending.{none_is_rest, none_is_done}
use Rattle.line_machine.proofs.Staying.{rest_has_none}
use Rattle.line_machine.proofs.turn_laws.none_is_chosen_at_rest.Goals as goal

pub returns-clause-none : goal.returns-clause-none
returns-clause-none c = none_is_rest

pub returns-clause-done : goal.returns-clause-done
returns-clause-done c = none_is_done

pub returns-clause-rest : goal.returns-clause-rest
returns-clause-rest c = rest_has_none
