use Rattle.line_machine.proofs.Answering.{answers_all_stand, opened_links}
use Rattle.line_machine.proofs.laws.answers_are_true.Goals as goal

pub returns-clause-opened : goal.returns-clause-opened
returns-clause-opened c = opened_links

pub returns-clause-kept : goal.returns-clause-kept
returns-clause-kept c = answers_all_stand
