use Rattle.line_machine.proofs.Doing.{opened_does_legally, does_legally_still}
use Rattle.line_machine.proofs.laws.deeds_are_legal.Goals as goal

pub returns-clause-opened : goal.returns-clause-opened
returns-clause-opened c = opened_does_legally

pub returns-clause-kept : goal.returns-clause-kept
returns-clause-kept c = does_legally_still
