use Rattle.config_print.proofs.RoundTrip.{printed_tokens, printed_reads}
use Rattle.config_print.proofs.print_laws.printed_text_reads.Goals as goal

pub returns-clause-tokens : goal.returns-clause-tokens
returns-clause-tokens c = λ levels text config reads. printed_tokens levels text config reads

pub returns-clause-reads : goal.returns-clause-reads
returns-clause-reads c = λ levels text config reads. printed_reads levels text config reads
