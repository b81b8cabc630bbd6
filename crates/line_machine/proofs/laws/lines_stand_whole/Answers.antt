use Rattle.line_machine.proofs.Lines.{opened_stands_whole, stands_whole_still, calls_stand_whole}
use Rattle.line_machine.proofs.laws.lines_stand_whole.Goals as goal

pub returns-clause-opened : goal.returns-clause-opened
returns-clause-opened c = opened_stands_whole

pub returns-clause-kept : goal.returns-clause-kept
returns-clause-kept c = stands_whole_still

pub returns-clause-calls : goal.returns-clause-calls
returns-clause-calls c = calls_stand_whole
