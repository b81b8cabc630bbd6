use Rattle.history_book.proofs.DeadLetters.{letters_were_appended}
use Rattle.history_book.proofs.Rejections.{rejections_were_appended}
use Rattle.history_book.proofs.laws.letters_were_appended.Goals as goal

pub returns-clause-due : goal.returns-clause-due
returns-clause-due c = letters_were_appended

pub returns-clause-rejected : goal.returns-clause-rejected
returns-clause-rejected c = rejections_were_appended
