use Rattle.queue_page.proofs.Spelling.{pages_are_read, pages_are_spelled}
use Rattle.queue_page.proofs.laws.pages_have_one_spelling.Goals as goal

pub returns-clause-read : goal.returns-clause-read
returns-clause-read c = pages_are_read

pub returns-clause-spelled : goal.returns-clause-spelled
returns-clause-spelled c = pages_are_spelled
