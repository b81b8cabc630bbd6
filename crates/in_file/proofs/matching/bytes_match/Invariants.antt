use Rattle.std.proofs.Common.{◌≡◌, ◌≤◌, length, drop}
use Rattle.in_file.specs.Matching.{ends_of, stands_for}
use Rattle.in_file.proofs.matching.bytes_match.Given as goal

abbrev pub invariant-loop-left : goal.invariant-loop-left
invariant-loop-left l = (l.left ≤ length l.pattern) × (l.ends.items ≡ ends_of (λ s. stands_for (drop l.left l.pattern) s) l.name)

abbrev pub decreases-loop-left : goal.decreases-loop-left
decreases-loop-left l = l.left
