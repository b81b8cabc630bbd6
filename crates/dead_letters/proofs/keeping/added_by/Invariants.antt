use Rattle.std.proofs.Common.{◌≡◌, ◌≤◌, ◌+◌, ◌*◌, ◌^◌, drop, map}
use Rattle.std.specs.List.{sum}
use Rattle.dead_letters.specs.Letters.{size_of}
use Rattle.dead_letters.proofs.keeping.added_by.Given as goal

abbrev pub invariant-loop-letter : goal.invariant-loop-letter
invariant-loop-letter l = record {
  sum : l.added + sum (map size_of (drop l.letter-index l.letters)) ≡ sum (map size_of l.letters);
  low : l.added ≤ l.letter-index * 2 ^ 64;
}
