use Rattle.line_machine.proofs.Choosing.{choices_can_be_done, choices_are_new}
use Rattle.line_machine.proofs.Finding.{choices_have_work}
use Rattle.line_machine.proofs.turn_laws.choices_can_be_done.Goals as goal

pub returns-clause-done : goal.returns-clause-done
returns-clause-done c = choices_can_be_done

pub returns-clause-work : goal.returns-clause-work
returns-clause-work c = choices_have_work

pub returns-clause-new : goal.returns-clause-new
returns-clause-new c = choices_are_new
