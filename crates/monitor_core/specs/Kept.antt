-- The rule of the table: the words of each seat hold what it counted, and no word belongs to two seats.
use Rattle.std.specs.Prelude.{◌≡◌, ◌≢◌, ◌≤◌, ◌<◌, ◌+◌, ◌-◌, ◌*◌, ◌⊎◌, ℕ, List, length, take, drop, slice_index, slice_set, replicate}
use mathlib.Core.Option.{some}
use lib.ListN.{get_elem?}
use Rattle.atomic_table.specs.Table.{State}
use Rattle.monitor_core.specs.declared.rule.CounterView.{CounterView}

-- the words from the seat's first on hold its counts
pub record Owns (words : List ℕ) (v : CounterView) : Type 0 where
  pub within : v.from + length v.counts ≤ length words
  pub same : (i : ℕ) → i < length v.counts → slice_index words (v.from + i) ≡ slice_index v.counts i

-- one ends before the other begins
abbrev pub AreApart : CounterView → CounterView → Type 0
AreApart v w = (v.from + length v.counts ≤ w.from) ⊎ (w.from + length w.counts ≤ v.from)

pub record Kept (s : State Unit CounterView) : Type 0 where
  pub owned : (k : ℕ) (v : CounterView) → get_elem? s.views k ≡ some v → Owns s.words v
  pub apart : (k l : ℕ) (v w : CounterView) → k ≢ l → get_elem? s.views k ≡ some v → get_elem? s.views l ≡ some w → AreApart v w

-- what is found in a word of the seat's own is what it counted there
abbrev pub ReadsOwn : CounterView → ℕ → ℕ → Type 0
ReadsOwn v word found = v.from ≤ word → word < v.from + length v.counts → found ≡ slice_index v.counts (word - v.from)

-- a word of the seat's own with another number
abbrev pub with_word : CounterView → ℕ → ℕ → CounterView
with_word v word n = record { from = v.from; counts = slice_set v.counts (word - v.from) n }

abbrev pub all_but_four : CounterView → CounterView
all_but_four v = record { from = v.from; counts = take (length v.counts - 4) v.counts }

abbrev pub last_four : CounterView → CounterView
last_four v = record { from = v.from + (length v.counts - 4); counts = drop (length v.counts - 4) v.counts }

-- the words of so many seats from the first on, in which nothing is counted
abbrev pub unused : ℕ → CounterView
unused seats = record { from = 0; counts = replicate (4 * seats) 0 }
