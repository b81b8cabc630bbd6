use Rattle.history_book.proofs.Running.{settled_rows_stand}
use Rattle.history_book.proofs.source_laws.settled_rows_stand.Goals as goal

pub returns : goal.returns
returns c = settled_rows_stand
