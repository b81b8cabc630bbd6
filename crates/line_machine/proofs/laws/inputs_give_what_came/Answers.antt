use Rattle.line_machine.proofs.Coming.{opened_inputs_stand, inputs_stand_still, recorded_are_settled}
use Rattle.line_machine.proofs.laws.inputs_give_what_came.Goals as goal

pub returns-clause-opened : goal.returns-clause-opened
returns-clause-opened c = opened_inputs_stand

pub returns-clause-kept : goal.returns-clause-kept
returns-clause-kept c = inputs_stand_still

pub returns-clause-recorded : goal.returns-clause-recorded
returns-clause-recorded c = recorded_are_settled
