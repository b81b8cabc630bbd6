use Rattle.std.proofs.Common.{arith}
use Rattle.element_code.proofs.RowReads.{row_body, row_size}
use Rattle.queue_page.proofs.framing.body_len.Goals as goal

pub returns-clause-size : goal.returns-clause-size
returns-clause-size c = omega (arith, row_size c.args.origin.now c.args.event.now c.size.ensures.valid, c.size.ensures.size)

pub returns-clause-body : goal.returns-clause-body
returns-clause-body c = row_body c.args.origin.now c.args.event.now c.utf8.origin c.requires.some c.requires.short c.size.ensures.valid

pub returns-clause-fits : goal.returns-clause-fits
returns-clause-fits c = omega (arith, c.size.ensures.valid.small, c.size.ensures.size, c.requires.short)
