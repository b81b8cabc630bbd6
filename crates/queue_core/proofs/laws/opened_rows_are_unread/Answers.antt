use Rattle.queue_core.proofs.UnreadRows.{opened_rows_are_unread}
use Rattle.queue_core.proofs.laws.opened_rows_are_unread.Goals as goal

pub returns : goal.returns
returns g c = opened_rows_are_unread g.S.Store
