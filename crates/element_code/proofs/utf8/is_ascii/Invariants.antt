use Rattle.std.proofs.Common.{length}
use Rattle.std.specs.Str.{IsAscii}
use Rattle.element_code.proofs.utf8.is_ascii.Given as goal

abbrev pub invariant-loop-block : goal.invariant-loop-block
invariant-loop-block l = IsAscii l.rest → IsAscii l.fn.bytes

abbrev pub decreases-loop-block : goal.decreases-loop-block
decreases-loop-block l = length l.rest
