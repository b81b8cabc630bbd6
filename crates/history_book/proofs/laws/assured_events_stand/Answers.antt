use Rattle.history_book.proofs.Histories.{settled_stand, assured_stand}
use Rattle.history_book.proofs.laws.assured_events_stand.Goals as goal

pub returns-clause-assured : goal.returns-clause-assured
returns-clause-assured c = assured_stand

pub returns-clause-settled : goal.returns-clause-settled
returns-clause-settled c = settled_stand
