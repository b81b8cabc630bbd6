use Rattle.std.proofs.Common.{◌≡◌, false}
use Rattle.base_tests.proofs.line_tests.lines_in_pieces.Given as goal

abbrev pub invariant-loop-piece : goal.invariant-loop-piece
invariant-loop-piece l = l.reader.ended ≡ false
