use Rattle.std.proofs.Common.{sym, subst}
use Rattle.store_memory.specs.Leaving.{IsSettled}
use Rattle.store_memory.proofs.Choosing.{settled_here}
use Rattle.store_memory.proofs.leftovers.settled_in.Goals as goal
use Rattle.store_memory.proofs.leftovers.settled_in.Goals.{then-is_sync, else-is_sync}

pub loop-at-preserved : goal.loop-at-preserved
loop-at-preserved c = elim c.if-is_sync.branch [
  | then-is_sync w ↦ subst (IsSettled c.args.calls.now) (sym w.settled-is) (settled_here c.args.calls.now c.loop-at.at c.index-calls-at.result c.loop-at-test.true c.index-calls-at.is (c.is_sync.ensures w.if-is_sync.true))
  | else-is_sync w ↦ subst (IsSettled c.args.calls.now) (sym w.settled-is) c.loop-at.invariant
]
