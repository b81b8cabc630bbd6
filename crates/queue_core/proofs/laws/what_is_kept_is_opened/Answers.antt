use Rattle.queue_core.proofs.Recovered.{what_is_kept_is_opened}
use Rattle.queue_core.proofs.laws.what_is_kept_is_opened.Goals as goal

pub returns : goal.returns
returns g c = what_is_kept_is_opened g.S.Store
