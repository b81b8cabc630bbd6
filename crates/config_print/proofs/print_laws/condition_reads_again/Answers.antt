use Rattle.config_print.proofs.Again.{condition_again}
use Rattle.config_print.proofs.print_laws.condition_reads_again.Goals as goal

pub returns : goal.returns
returns c = λ levels tokens condition reads. condition_again reads
