use Rattle.std.proofs.Common.{arith}
use Rattle.element_code.proofs.Ascii.{ascii_block}
use Rattle.element_code.proofs.utf8.are_ascii_8.Goals as goal

pub returns : goal.returns
returns c = ascii_block 8 c.args.block c.fits-block.0 (omega arith)
