use Rattle.line_machine.proofs.Kits.{kits_stay, kits_are_theirs, opened_kits}
use Rattle.line_machine.proofs.laws.kits_stay.Goals as goal

pub returns-clause-opened : goal.returns-clause-opened
returns-clause-opened c = opened_kits

pub returns-clause-counted : goal.returns-clause-counted
returns-clause-counted c = kits_stay

pub returns-clause-theirs : goal.returns-clause-theirs
returns-clause-theirs c = kits_are_theirs
