use Rattle.std.proofs.Common.{◌≡◌, ◌++◌, drop, map}
use Rattle.dead_letters.specs.Letters.{size_of}
use Rattle.dead_letters.proofs.keeping.record_sizes.Given as goal

abbrev pub invariant-loop-letter : goal.invariant-loop-letter
invariant-loop-letter l = l.sizes ++ map size_of (drop l.letter-index l.letters) ≡ map size_of l.letters
