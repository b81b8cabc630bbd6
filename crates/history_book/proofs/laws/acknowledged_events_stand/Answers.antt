use Rattle.history_book.proofs.Standing.{acknowledged_events_stand}
use Rattle.history_book.proofs.laws.acknowledged_events_stand.Goals as goal

pub returns : goal.returns
returns c = acknowledged_events_stand
