use Rattle.config_print.proofs.Again.{config_again}
use Rattle.config_print.proofs.print_laws.configuration_reads_again.Goals as goal

pub returns : goal.returns
returns c = λ levels tokens config reads. config_again levels tokens config reads
