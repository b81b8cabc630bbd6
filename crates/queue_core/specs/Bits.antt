-- Bits in words of 64, as a list.
use Rattle.std.specs.Prelude.{◌≡◌, ◌≤◌, ◌*◌, ◌/◌, ◌%◌, ◌==◌, ◌&&◌, ◌||◌, not, nat_lt, ℕ, zero, suc, Bool, false, List, [], ◌∷◌, length, slice_index}
use Rattle.std.specs.Int.{bit_at}
use Rattle.queue_files.specs.Kept.{leading}

-- this bit of the words is set
unfoldable pub bit_of : List ℕ → ℕ → Bool
bit_of words k = bit_at (slice_index words (k / 64)) (k % 64) == 1

-- so many bits, from one on
abbrev pub bits_from : List ℕ → ℕ → ℕ → List Bool
bits_from words from zero = []
bits_from words from (suc count) = bit_of words from ∷ bits_from words (suc from) count

-- this number is one from the first on, below the second
unfoldable pub is_among : ℕ → ℕ → ℕ → Bool
is_among from to k = not (nat_lt k from) && nat_lt k to

-- with those true whose places are among these; the first place is this
abbrev pub with_range : ℕ → ℕ → ℕ → List Bool → List Bool
with_range place from to [] = []
with_range place from to (b ∷ bits) = (b || is_among from to place) ∷ with_range (suc place) from to bits

-- so many bits have room in the words, none behind them is set, and this many are set in front
pub record AreHeld (words : List ℕ) (count first : ℕ) : Type 0 where
  pub room : count ≤ 64 * length words
  pub rest : (k : ℕ) → count ≤ k → bit_of words k ≡ false
  pub first_is : first ≡ leading (bits_from words 0 count)
