use Rattle.graph_checks.proofs.OwnIds.{checked_own}
use Rattle.graph_checks.proofs.laws.checked_outputs_have_own_ids.Goals as goal

pub returns : goal.returns
returns c given config said = checked_own given config said
