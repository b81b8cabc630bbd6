use Rattle.history_book.proofs.Running.{empty_is_delivered}
use Rattle.history_book.proofs.source_laws.empty_queues_are_delivered.Goals as goal

pub returns : goal.returns
returns c = empty_is_delivered
