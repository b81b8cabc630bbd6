use Rattle.std.proofs.Common.{◌≡◌, ◌≤◌, ◌<◌, ◌-◌, ℕ, true}
use Rattle.queue_core.specs.Bits.{bit_of}
use Rattle.queue_core.proofs.words.first_unset.Given as goal

abbrev pub invariant-loop-bit : goal.invariant-loop-bit
invariant-loop-bit l = record {
  past : l.from ≤ l.bit;
  within : l.bit ≤ l.end;
  set : (k : ℕ) → l.from ≤ k → k < l.bit → bit_of l.words k ≡ true;
}

abbrev pub decreases-loop-bit : goal.decreases-loop-bit
decreases-loop-bit l = l.end - l.bit
