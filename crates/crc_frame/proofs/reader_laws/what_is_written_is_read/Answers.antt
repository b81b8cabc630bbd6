use Rattle.std.proofs.Common.{sym}
use Rattle.crc_frame.proofs.Fronts.{front_again, number_again, run_bytes_again}
use Rattle.crc_frame.proofs.reader_laws.what_is_written_is_read.Goals as goal

pub returns-clause-front : goal.returns-clause-front
returns-clause-front c = λ width front rest long. front_again front rest width (sym long)

pub returns-clause-number : goal.returns-clause-number
returns-clause-number c = number_again

pub returns-clause-run : goal.returns-clause-run
returns-clause-run c = run_bytes_again
