use Rattle.std.proofs.Common.{arith}
use Rattle.element_code.proofs.RowReads.{row_body, row_size}
use Rattle.element_code.proofs.row.row_len.Goals as goal

pub returns-clause-size : goal.returns-clause-size
returns-clause-size c = omega (arith, row_size c.args.origin.now c.args.event.now c.size.ensures.valid, c.size.ensures)

pub returns-clause-body : goal.returns-clause-body
returns-clause-body c = row_body c.args.origin.now c.args.event.now c.utf8.origin c.requires.some c.requires.short c.size.ensures.valid
