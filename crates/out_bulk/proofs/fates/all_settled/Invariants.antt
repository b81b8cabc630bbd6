use Rattle.out_bulk.proofs.FateRuns.{SettledSoFar}
use Rattle.out_bulk.proofs.fates.all_settled.Given as goal

abbrev pub invariant-loop-fate : goal.invariant-loop-fate
invariant-loop-fate l = SettledSoFar l.settled l.fate-index l.fates
