use Rattle.line_machine.proofs.Serving.{opened_ends_stand, ends_stand_still}
use Rattle.line_machine.proofs.laws.ends_are_served.Goals as goal

pub returns-clause-opened : goal.returns-clause-opened
returns-clause-opened c = opened_ends_stand

pub returns-clause-kept : goal.returns-clause-kept
returns-clause-kept c = ends_stand_still
