use Rattle.queue_core.proofs.GivenOnce.{rows_are_given_once}
use Rattle.queue_core.proofs.laws.each_row_is_given_once.Goals as goal

pub returns : goal.returns
returns g c = rows_are_given_once g.S.Store
