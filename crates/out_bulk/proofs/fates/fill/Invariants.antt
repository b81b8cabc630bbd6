use Rattle.std.proofs.Common.{map}
use Rattle.out_bulk.specs.Fates.{filled, settled_by}
use Rattle.out_bulk.proofs.FateRuns.{FilledSoFar}
use Rattle.out_bulk.proofs.fates.fill.Given as goal

abbrev pub invariant-loop-fate : goal.invariant-loop-fate
invariant-loop-fate l = FilledSoFar l.settled l.fate-index (filled l.settled (map settled_by l.said)) l.all (map settled_by l.left)
