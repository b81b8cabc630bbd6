use Rattle.std.proofs.Common.{◌≡◌, ◌++◌, List, ℕ, Bool, drop}
use Rattle.in_file.specs.Matching.{ends_of, starts}
use Rattle.in_file.proofs.matching.ends_behind_byte.Given as goal

abbrev pub invariant-loop-at : goal.invariant-loop-at
invariant-loop-at l = (test : List ℕ → Bool) → l.ends ≡ ends_of test l.name → l.more.items ++ ends_of (starts l.byte test) (drop l.at l.name) ≡ ends_of (starts l.byte test) l.name
