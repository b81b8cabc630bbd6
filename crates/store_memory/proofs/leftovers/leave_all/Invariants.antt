use Rattle.std.proofs.Common.{take, length}
use Rattle.store_memory.specs.Leaving.{IsHeld, fates_by}
use Rattle.store_memory.proofs.Choosing.{IsLeftSoFar}
use Rattle.store_memory.proofs.leftovers.leave_all.Given as goal

abbrev pub invariant-loop-at : goal.invariant-loop-at
invariant-loop-at l = record {
  held : IsHeld l.base (take l.at l.calls) l.held;
  left : IsLeftSoFar (fates_by l.choice (length l.calls)) l.base (take l.at l.calls) l.files;
}
