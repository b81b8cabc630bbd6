use Rattle.element_code.proofs.Ascii.{ascii_parts}
use Rattle.element_code.proofs.utf8.is_short_ascii.Goals as goal

pub returns-then-are_ascii_8 : goal.returns-then-are_ascii_8
returns-then-are_ascii_8 c = λ t. ascii_parts 8 c.args.bytes.now c.in-Some.block.now c.in-Some.behind.now c.in-Some.ensures.cases.0 c.in-Some.ensures.cases.1 (c.are_ascii_8.ensures c.if-are_ascii_8.true) (c.is_shorter_ascii.ensures t)
