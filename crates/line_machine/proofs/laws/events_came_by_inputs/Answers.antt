use Rattle.line_machine.proofs.Accepting.{opened_ways_stand, ways_stand_still}
use Rattle.line_machine.proofs.laws.events_came_by_inputs.Goals as goal

pub returns-clause-opened : goal.returns-clause-opened
returns-clause-opened c = opened_ways_stand

pub returns-clause-kept : goal.returns-clause-kept
returns-clause-kept c = ways_stand_still
