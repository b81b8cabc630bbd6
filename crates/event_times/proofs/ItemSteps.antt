-- What a list of items reads, one item further.
use Rattle.std.proofs.Common.{◌≡◌, ℕ, ◌<◌, List, [], ◌∷◌, length, Option, Some, None, option_and_then, refl, arith}
use Rattle.event_times.specs.declared.item.TimeItem.{TimeItem}
use Rattle.event_times.specs.declared.moment.TimeParts.{TimeParts}
use Rattle.event_times.specs.Reading.{first_reading, other_reading, parts_read}

-- where no item is left, the text has to be at its end
pub at_end : (items : List TimeItem) (p : TimeParts) (s : List ℕ) → length items ≡ 0 → length s ≡ 0 → Some p ≡ parts_read items p s
unfolding parts_read
at_end [] p [] none end = refl
at_end [] p (b ∷ s) none end = absurd (omega arith)
at_end (i ∷ is) p s none end = absurd (omega arith)

pub before_end : (items : List TimeItem) (p : TimeParts) (s : List ℕ) → length items ≡ 0 → 0 < length s → ◌≡◌ {A = Option TimeParts} None (parts_read items p s)
unfolding parts_read
before_end [] p [] none some = absurd (omega arith)
before_end [] p (b ∷ s) none some = refl
before_end (i ∷ is) p s none some = absurd (omega arith)

module _ (items is : List TimeItem) (i : TimeItem) (p : TimeParts) (s : List ℕ) (whole : items ≡ i ∷ is) where
  -- what the items behind the first make of what it read
  abbrev pub rest_read : TimeParts × List ℕ → Option TimeParts
  rest_read f = parts_read is f.0 f.1

  pub by_first : (f : TimeParts × List ℕ) (r : TimeParts) → first_reading i p s ≡ Some f → rest_read f ≡ Some r → Some r ≡ parts_read items p s
  unfolding parts_read
  by_first f r first read = rw (whole, first, read) refl

  pub no_first : first_reading i p s ≡ None → parts_read items p s ≡ option_and_then rest_read (other_reading i p s)
  unfolding parts_read
  no_first first = rw (whole, first) refl

  pub past_first : (f : TimeParts × List ℕ) → first_reading i p s ≡ Some f → rest_read f ≡ None → parts_read items p s ≡ option_and_then rest_read (other_reading i p s)
  unfolding parts_read
  past_first f first none = rw (whole, first, none) refl
