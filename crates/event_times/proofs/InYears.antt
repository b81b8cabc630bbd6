-- A moment that was tested for its years.
use Rattle.std.proofs.Common.{◌≡◌, Bool, true, false, Option, Some, None, refl, sym, ap, ◌∙◌, ℤ, ◌≤ℤ◌, ◌-ℤ◌, ◌*ℤ◌, pos, neg_ℤ, ◌^◌, to_z, of_z, to_z-of_z, subst, arith}
use Rattle.std.specs.Prelude.{int_le, SomeIff}
use Rattle.std.proofs.lemmas.Int.{ints}
use Rattle.std.specs.Int.{w128}
use Rattle.jiff_core.proofs.SignedLemmas.{signed_arith, fits_between}
use Rattle.plain_data.specs.Calendar.{IsMoment, first_moment, last_moment}
use Rattle.event_times.specs.Moments.{moment_in_years, IsShown}

le_is : (a b : ℤ) → a ≤ℤ b → int_le a b ≡ true
le_is a b h = grind (arith, ints)

le_from : (a b : ℤ) → int_le a b ≡ true → a ≤ℤ b
le_from a b h = grind (arith, ints)

tested : (a b : ℤ) → int_le first_moment a ≡ true → int_le b last_moment ≡ true → a ≡ b → IsMoment a
tested a b low high same = record { from_first = le_from first_moment a low; to_last = le_from a last_moment (ap (λ z. int_le z last_moment) same ∙ high) }

none_in : (z : ℤ) → ¬ (IsMoment z) → moment_in_years z ≡ None
none_in z not_in = cases_none (int_le first_moment z) (int_le z last_moment) refl refl where
  cases_none : (a b : Bool) → int_le first_moment z ≡ a → int_le z last_moment ≡ b → moment_in_years z ≡ None
  cases_none false b low high = rw low refl
  cases_none true false low high = rw (low, high) refl
  cases_none true true low high = absurd (not_in (tested z z low high refl))

pub in_years : (r : Option ℤ) (z w : ℤ) → SomeIff r (IsMoment z) z → z ≡ w → r ≡ moment_in_years w
in_years None z w not_in same = sym (ap moment_in_years (sym same) ∙ none_in z not_in)
in_years (Some x) z w is same = rw (le_is first_moment w (subst (λ y. first_moment ≤ℤ y) same is.0.from_first), le_is w last_moment (subst (λ y. y ≤ℤ last_moment) same is.0.to_last)) (ap Some (is.1 ∙ same))

abbrev IsSmall : ℤ → Type 0
IsSmall z = (neg_ℤ (pos (10 ^ 30)) ≤ℤ z) × (z ≤ℤ pos (10 ^ 30))

bits : (z : ℤ) → IsSmall z → to_z w128 (of_z w128 z) ≡ z
bits z small = to_z-of_z (fits_between w128 z (omega (arith, signed_arith, small.0, small.1)))

-- what is computed in 128 bits is that
pub computed : (s o f : ℤ) → IsShown s → f ≡ o → neg_ℤ (pos (2 ^ 31)) ≤ℤ o → o ≤ℤ pos (2 ^ 31)
    → to_z w128 (of_z w128 (to_z w128 (of_z w128 s) -ℤ to_z w128 (of_z w128 (to_z w128 (of_z w128 f) *ℤ pos 1000000000)))) ≡ s -ℤ o *ℤ pos 1000000000
computed s o f shown same low high =
    let scaled : IsSmall (o *ℤ pos 1000000000) = omega (arith, signed_arith) in
    let first : to_z w128 (of_z w128 s) ≡ s = bits s (omega (arith, signed_arith, shown.0), omega (arith, signed_arith, shown.1)) in
    let second : to_z w128 (of_z w128 o) ≡ o = bits o (omega (arith, signed_arith), omega (arith, signed_arith)) in
    let third : to_z w128 (of_z w128 (o *ℤ pos 1000000000)) ≡ o *ℤ pos 1000000000 = bits (o *ℤ pos 1000000000) scaled in
    let last : IsSmall (s -ℤ o *ℤ pos 1000000000) = (omega (arith, signed_arith, shown.0), omega (arith, signed_arith, shown.1)) in
    rw (same, first, second, third) (bits (s -ℤ o *ℤ pos 1000000000) last)
