use Rattle.queue_core.proofs.UnreadCalls.{written_comes_last}
use Rattle.queue_core.proofs.laws.a_written_row_comes_last.Goals as goal

pub returns : goal.returns
returns g c = written_comes_last g.S.Store
