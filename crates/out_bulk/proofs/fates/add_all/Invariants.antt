use Rattle.std.proofs.Common.{◌≡◌, ◌++◌, drop, map}
use Rattle.out_bulk.specs.Fates.{settled_by}
use Rattle.out_bulk.proofs.fates.add_all.Given as goal

abbrev pub invariant-loop-one : goal.invariant-loop-one
invariant-loop-one l = l.fn.to ++ map settled_by l.said ≡ l.to ++ map settled_by (drop l.one-index l.said)
