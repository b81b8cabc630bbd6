use Rattle.std.proofs.Common.{arith}
use Rattle.crc_frame.proofs.FrameLemmas.{length-frame_of}
use Rattle.element_code.specs.RowBodies.{row_spelling}
use Rattle.queue_page.proofs.NextRows.{row_is_framed}
use Rattle.queue_page.proofs.framing.frame_row.Goals as goal

pub add_element-written-requires-clause-fits : goal.add_element-written-requires-clause-fits
add_element-written-requires-clause-fits c = c.body_len.ensures.fits

pub returns-then-is_err-clause-size : goal.returns-then-is_err-clause-size
returns-then-is_err-clause-size c = omega (arith, length-frame_of c.args.number (row_spelling c.args.origin.now c.args.event.now), c.body_len.ensures.size, c.body_len.ensures.sum)

pub returns-then-is_err-clause-element : goal.returns-then-is_err-clause-element
returns-then-is_err-clause-element c = λ place.
    row_is_framed c.args.number c.args.origin.now c.args.event.now place (omega arith) c.body_len.ensures.body (omega (arith, c.body_len.ensures.size, c.body_len.ensures.fits))

pub returns-else-is_err-clause-size : goal.returns-else-is_err-clause-size
returns-else-is_err-clause-size c = omega (arith, length-frame_of c.args.number (row_spelling c.args.origin.now c.args.event.now), c.body_len.ensures.size, c.body_len.ensures.sum)

pub returns-else-is_err-clause-element : goal.returns-else-is_err-clause-element
returns-else-is_err-clause-element c = λ place.
    row_is_framed c.args.number c.args.origin.now c.args.event.now place (omega arith) c.body_len.ensures.body (omega (arith, c.body_len.ensures.size, c.body_len.ensures.fits))
