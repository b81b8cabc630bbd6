use Rattle.std.proofs.Common.{◌≡◌, ◌≤◌, ◌*◌, ◌^◌, take}
use Rattle.std.specs.List.{sum}
use Rattle.dead_letters.proofs.shedding.total.Given as goal

abbrev pub invariant-loop-size : goal.invariant-loop-size
invariant-loop-size l = record {
  sum : l.total ≡ sum (take l.size-index l.sizes);
  low : l.total ≤ l.size-index * 2 ^ 64;
}
