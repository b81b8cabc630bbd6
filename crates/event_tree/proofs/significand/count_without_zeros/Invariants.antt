use Rattle.std.proofs.Common.{◌≡◌, ◌≤◌, ◌-◌, ℕ, take, length}
use Rattle.event_tree.specs.NumberTexts.{number, tens}
use Rattle.event_tree.proofs.significand.count_without_zeros.Given as goal

abbrev pub invariant-loop-count : goal.invariant-loop-count
invariant-loop-count l = record {
  within : l.count ≤ length l.digits;
  zeros : (n : ℕ) → number n l.digits ≡ tens (number n (take l.count l.digits)) (length l.digits - l.count);
}

abbrev pub decreases-loop-count : goal.decreases-loop-count
decreases-loop-count l = l.count
