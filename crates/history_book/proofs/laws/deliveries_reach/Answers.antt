use Rattle.history_book.proofs.Reaching.{deliveries_reach}
use Rattle.history_book.proofs.laws.deliveries_reach.Goals as goal

pub returns : goal.returns
returns c = deliveries_reach
