use Rattle.history_book.proofs.Arriving.{answered_rows_stand}
use Rattle.history_book.proofs.laws.answered_rows_stand.Goals as goal

pub returns : goal.returns
returns c = answered_rows_stand
