use Rattle.element_code.proofs.Ascii.{ascii_parts}
use Rattle.element_code.proofs.utf8.is_shorter_ascii.Goals as goal

pub returns-then-are_ascii_4 : goal.returns-then-are_ascii_4
returns-then-are_ascii_4 c = λ t. ascii_parts 4 c.args.bytes.now c.in-Some.block.now c.in-Some.behind.now c.in-Some.ensures.cases.0 c.in-Some.ensures.cases.1 (c.are_ascii_4.ensures c.if-are_ascii_4.true) (c.is_shortest_ascii.ensures t)
