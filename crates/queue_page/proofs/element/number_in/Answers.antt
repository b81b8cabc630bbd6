use Rattle.std.proofs.Common.{arith}
use Rattle.queue_page.proofs.ElementReads.{number_short, number_long}
use Rattle.std.proofs.Common.{◌∙◌}
use Rattle.queue_page.proofs.element.number_in.Goals as goal

pub returns-then-bytes-lt-NUMBER_LEN : goal.returns-then-bytes-lt-NUMBER_LEN
returns-then-bytes-lt-NUMBER_LEN c = number_short c.args.bytes.now (omega arith)

pub returns : goal.returns
returns c = c.read_u64.ensures ∙ number_long c.args.bytes.now (omega arith)
