use Rattle.queue_core.proofs.UnreadCalls.{purge_leaves_unread}
use Rattle.queue_core.proofs.laws.a_purge_leaves_unread.Goals as goal

pub returns : goal.returns
returns g c = purge_leaves_unread g.S.Store
