use Rattle.line_machine.proofs.Steps.{calls_follow, steps_follow}
use Rattle.line_machine.proofs.Ways.{ways_leave_no_more}
use Rattle.line_machine.proofs.laws.steps_follow.Goals as goal

pub returns-clause-steps : goal.returns-clause-steps
returns-clause-steps c = steps_follow

pub returns-clause-calls : goal.returns-clause-calls
returns-clause-calls c = calls_follow

pub returns-clause-ways : goal.returns-clause-ways
returns-clause-ways c = ways_leave_no_more
