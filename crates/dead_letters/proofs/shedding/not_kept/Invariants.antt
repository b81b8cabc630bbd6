use Rattle.std.proofs.Common.{◌≡◌, ◌++◌, drop}
use Rattle.dead_letters.specs.Shedding.{not_kept}
use Rattle.dead_letters.proofs.shedding.not_kept.Given as goal

abbrev pub invariant-loop-place : goal.invariant-loop-place
invariant-loop-place l = l.places ++ not_kept l.limit l.taken l.place (drop l.place l.records) ≡ not_kept l.limit l.fn.used 0 l.records
