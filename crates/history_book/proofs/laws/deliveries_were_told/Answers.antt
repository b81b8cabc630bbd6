use Rattle.history_book.proofs.Telling.{deliveries_were_told}
use Rattle.history_book.proofs.laws.deliveries_were_told.Goals as goal

pub returns : goal.returns
returns c = deliveries_were_told
