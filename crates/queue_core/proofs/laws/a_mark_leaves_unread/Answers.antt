use Rattle.queue_core.proofs.UnreadCalls.{mark_leaves_unread}
use Rattle.queue_core.proofs.laws.a_mark_leaves_unread.Goals as goal

pub returns : goal.returns
returns g c = mark_leaves_unread g.S.Store
