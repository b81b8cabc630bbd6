use Rattle.element_code.proofs.Ascii.{ascii_parts}
use Rattle.element_code.proofs.utf8.is_ascii.Goals as goal

pub loop-block-preserved : goal.loop-block-preserved
loop-block-preserved c = λ t. c.loop-block.invariant (ascii_parts 16 c.loop-block.rest.now c.in-Some.block.now c.in-Some.behind.now c.in-Some.ensures.cases.0 c.in-Some.ensures.cases.1 (c.are_ascii_16.ensures c.if-not-are_ascii_16.false) t)
