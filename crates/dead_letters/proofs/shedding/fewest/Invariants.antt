use Rattle.std.proofs.Common.{◌≡◌, ◌+◌, drop}
use Rattle.std.specs.List.{sum}
use Rattle.dead_letters.specs.Shedding.{fewest}
use Rattle.dead_letters.proofs.shedding.fewest.Given as goal

abbrev pub invariant-loop-size : goal.invariant-loop-size
invariant-loop-size l = record {
  at : l.older ≡ l.size-index;
  left : l.left ≡ sum (drop l.size-index l.segments) + l.added;
  rest : l.size-index + fewest l.limit l.added (drop l.size-index l.segments) ≡ fewest l.limit l.added l.segments;
}
