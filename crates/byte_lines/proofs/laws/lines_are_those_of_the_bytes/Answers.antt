use Rattle.byte_lines.proofs.Splitting.{SplitsInto-split_of}
use Rattle.byte_lines.proofs.laws.lines_are_those_of_the_bytes.Goals as goal

pub returns-clause-are : goal.returns-clause-are
returns-clause-are c = SplitsInto-split_of
