use Rattle.store_memory.specs.Leaving.{IsSettled}
use Rattle.store_memory.proofs.leftovers.settled_in.Given as goal

abbrev pub invariant-loop-at : goal.invariant-loop-at
invariant-loop-at l = IsSettled l.calls l.settled
