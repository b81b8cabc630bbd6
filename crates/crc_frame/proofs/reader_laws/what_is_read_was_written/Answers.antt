use Rattle.std.proofs.Common.{sym, ◌∙◌, append_assoc, length}
use Rattle.crc_frame.specs.Fronts.{count_bytes}
use Rattle.crc_frame.proofs.Fronts.{front_takes, number_takes, run_takes}
use Rattle.crc_frame.proofs.reader_laws.what_is_read_was_written.Goals as goal

pub returns-clause-front : goal.returns-clause-front
returns-clause-front c = λ width bytes x rest fits read. let t = front_takes width bytes (x, rest) fits read in (t.1, t.0.is)

pub returns-clause-number : goal.returns-clause-number
returns-clause-number c = λ width bytes x rest fits read. let t = number_takes width bytes (x, rest) fits read in (t.1, t.0)

pub returns-clause-run : goal.returns-clause-run
returns-clause-run c = λ bytes x rest fits read. let r = run_takes bytes (x, rest) fits read in (r.short, r.is ∙ sym (append_assoc (count_bytes (length x)) x rest))
