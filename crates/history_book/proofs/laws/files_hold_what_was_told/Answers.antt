use Rattle.history_book.proofs.Files.{files_hold}
use Rattle.history_book.proofs.laws.files_hold_what_was_told.Goals as goal

pub returns : goal.returns
returns c = files_hold
