use Rattle.queue_core.proofs.UnreadRows.{acknowledged_leaves_unread}
use Rattle.queue_core.proofs.laws.acknowledged_rows_leave_unread.Goals as goal

pub returns : goal.returns
returns g c = acknowledged_leaves_unread g.S.Store
