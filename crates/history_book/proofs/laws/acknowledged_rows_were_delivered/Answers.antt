use Rattle.history_book.proofs.Histories.{acknowledged_were_delivered}
use Rattle.history_book.proofs.laws.acknowledged_rows_were_delivered.Goals as goal

pub returns : goal.returns
returns c = acknowledged_were_delivered
