use Rattle.out_bulk.proofs.FateRuns.{TakenSoFar}
use Rattle.out_bulk.proofs.fates.taken.Given as goal

abbrev pub invariant-loop-i : goal.invariant-loop-i
invariant-loop-i l = TakenSoFar l.fates l.events l.i l.held
