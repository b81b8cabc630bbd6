use Rattle.graph_checks.proofs.Configured.{checked_reads}
use Rattle.graph_checks.proofs.laws.checked_configurations_read.Goals as goal

pub returns : goal.returns
returns c given config said = checked_reads given config said
