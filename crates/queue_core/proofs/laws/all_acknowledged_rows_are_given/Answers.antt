use Rattle.queue_core.proofs.GivenRows.{all_are_given}
use Rattle.queue_core.proofs.laws.all_acknowledged_rows_are_given.Goals as goal

pub returns : goal.returns
returns g c = all_are_given g.S.Store
