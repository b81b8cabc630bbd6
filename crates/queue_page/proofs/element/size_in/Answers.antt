use Rattle.std.proofs.Common.{ap, ◌∙◌, arith}
use Rattle.std.proofs.lemmas.List.{take_rest}
use Rattle.byteorder.specs.Endian.{big_number}
use Rattle.queue_page.proofs.ElementReads.{size_short, size_long}
use Rattle.queue_page.proofs.element.size_in.Goals as goal

pub returns-then-bytes-lt-HEAD_LEN : goal.returns-then-bytes-lt-HEAD_LEN
returns-then-bytes-lt-HEAD_LEN c = size_short c.args.bytes.now (omega arith)

pub returns : goal.returns
returns c = c.read_u32.ensures ∙ ap (big_number 4) (take_rest c.args.bytes.now 8) ∙ size_long c.args.bytes.now (omega arith)
