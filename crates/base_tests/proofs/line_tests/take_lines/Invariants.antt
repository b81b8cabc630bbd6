use Rattle.std.proofs.Common.{◌≡◌, length}
use Rattle.byte_lines.specs.Unread.{lines_left}
use Rattle.base_tests.proofs.line_tests.take_lines.Given as goal

abbrev pub invariant-loop-line : goal.invariant-loop-line
invariant-loop-line l = l.reader.ended ≡ l.fn.reader.ended

abbrev pub decreases-loop-line : goal.decreases-loop-line
decreases-loop-line l = length (lines_left l.reader)
