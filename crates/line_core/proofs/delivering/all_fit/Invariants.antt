use Rattle.std.proofs.Common.{take, All}
use Rattle.dead_letters.specs.Letters.{FitsRecord}
use Rattle.line_core.proofs.delivering.all_fit.Given as goal

abbrev pub invariant-loop-letter : goal.invariant-loop-letter
invariant-loop-letter l = All FitsRecord (take l.letter-index l.letters)
