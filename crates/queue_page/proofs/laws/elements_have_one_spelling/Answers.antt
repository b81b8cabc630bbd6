use Rattle.queue_page.proofs.Spelling.{elements_are_read, elements_are_spelled, none_begins_another}
use Rattle.queue_page.proofs.laws.elements_have_one_spelling.Goals as goal

pub returns-clause-read : goal.returns-clause-read
returns-clause-read c = elements_are_read

pub returns-clause-spelled : goal.returns-clause-spelled
returns-clause-spelled c = elements_are_spelled

pub returns-clause-begins : goal.returns-clause-begins
returns-clause-begins c = none_begins_another
