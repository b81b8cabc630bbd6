use Rattle.std.proofs.Common.{◌≡◌, ◌≤◌, ◌-◌, ◌||◌, ℕ, length}
use Rattle.queue_core.specs.Bits.{bit_of, is_among}
use Rattle.queue_core.proofs.words.set_bits.Given as goal

abbrev pub invariant-loop-bit : goal.invariant-loop-bit
invariant-loop-bit l = record {
  past : l.from ≤ l.bit;
  within : l.bit ≤ l.to;
  len : length l.words.items ≡ length l.fn.words.items;
  bits : (k : ℕ) → bit_of l.words.items k ≡ (bit_of l.fn.words.items k || is_among l.from l.bit k);
}

abbrev pub decreases-loop-bit : goal.decreases-loop-bit
decreases-loop-bit l = l.to - l.bit
