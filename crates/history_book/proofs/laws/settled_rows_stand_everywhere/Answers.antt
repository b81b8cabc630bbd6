use Rattle.history_book.proofs.Reaching.{everything_stands}
use Rattle.history_book.proofs.laws.settled_rows_stand_everywhere.Goals as goal

pub returns : goal.returns
returns c = everything_stands
