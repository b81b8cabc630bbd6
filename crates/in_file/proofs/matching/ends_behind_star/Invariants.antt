use Rattle.std.proofs.Common.{◌≡◌, ◌++◌, drop}
use Rattle.in_file.specs.Matching.{any_from}
use Rattle.in_file.proofs.matching.ends_behind_star.Given as goal

abbrev pub invariant-loop-at : goal.invariant-loop-at
invariant-loop-at l = l.more.items ++ any_from (drop l.at l.ends) ≡ any_from l.ends
