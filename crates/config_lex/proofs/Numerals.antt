-- The number of a text has the value that its digits write.
use Rattle.std.proofs.Common.{◌≡◌, ◌≢◌, ◌<◌, ◌≤◌, ℕ, zero, suc, ◌+◌, ◌-◌, ◌*◌, ◌%◌, ◌==◌, pos, List, [], ◌∷◌, ◌++◌, length, cond, nat_le, Some, None, Bool, true, false, if◌then◌else◌, refl, ap, sym, subst, ◌∙◌, eqb-true, arith}
use Rattle.std.specs.Prelude.{int_rem, option_and_then}
use Rattle.std.specs.Ordering.{int_eq}
use Rattle.std.proofs.lemmas.Int.{ints}
use Rattle.std.proofs.lemmas.Bool.{false_from_ne_true}
use Rattle.std.proofs.lemmas.Bool.Decides.{Decides-int_eq, nat_tests}
use Rattle.event_tree.specs.Number.{least}
use Rattle.event_tree.specs.NumberTexts.{IsI64, Shifts, AreDigits, is_digit, number, numeral, signed, most, tens}
use Rattle.event_tree.proofs.DecimalLemmas.{magnitude, not_above, not_lowered, with_zeros}
use Rattle.event_tree.proofs.Least.{least_few}
use Rattle.event_tree.proofs.Tens.{tens-add, tens-cancel, tens-le, tens-ten, number-append}
use Rattle.config_lex.specs.Bytes.{begins_with, number_of, zeros_behind, without_zeros}
use Rattle.config_lex.specs.Laws.{IsNumberText, whole_digits, places, HasValueOf}
use Rattle.config_lex.proofs.NumberFronts.{places_are_digits}

-- of a digit and what is behind it, without the zeros at their end
abbrev Trimmed : ℕ → List ℕ → List ℕ → Type 0
Trimmed n f w = (zeros : ℕ) × (length f ≡ length w + zeros) × (number n f ≡ tens (number n w) zeros)

-- digits without the zeros at their end, and so many zeros
trimmed : (n : ℕ) (f : List ℕ) → AreDigits f → Trimmed n f (without_zeros f)
trimmed n [] a = (0, omega arith, refl)
trimmed n (b ∷ f) a = by (without_zeros f) (trimmed (10 * n + (b - 48)) f a.1)
  where
    zero : (z : Bool) → (b == 48) ≡ z → Trimmed (10 * n + (b - 48)) f [] → Trimmed n (b ∷ f) (if z then [] else b ∷ [])
    zero true e (k, l, v) =
        let m : 10 * n + (b - 48) ≡ 10 * n = omega (arith, eqb-true b 48 e) in
        (suc k, omega (arith, l), v ∙ ap (λ x. tens x k) m ∙ tens-ten n k)
    zero false e (k, l, v) = (k, omega (arith, l), v)

    by : (w : List ℕ) → Trimmed (10 * n + (b - 48)) f w → Trimmed n (b ∷ f) (zeros_behind b w)
    by [] h = zero (b == 48) refl h
    by (c ∷ w) (k, l, v) = (k, omega (arith, l), v)

-- where some are left, they end in no zero
ends_in_none : (f : List ℕ) → AreDigits f → (n : ℕ) → 0 < length (without_zeros f) → number n (without_zeros f) % 10 ≢ 0
ends_in_none [] a n h = absurd (omega (arith, h))
ends_in_none (b ∷ f) a n h = by (without_zeros f) (λ m. ends_in_none f a.1 m) h
  where
    one : (z : Bool) → (b == 48) ≡ z → 0 < length (if z then [] else b ∷ []) → number n (if z then [] else b ∷ []) % 10 ≢ 0
    one true e h = absurd (omega (arith, h))
    one false e h =
        let digit : is_digit b ≡ true = a.0 in
        let low : 48 ≤ b = grind (arith, nat_tests) in
        let high : b ≤ 57 = grind (arith, nat_tests) in
        let other : b ≢ 48 = grind (arith, nat_tests) in
        λ z. absurd (omega (arith, low, high, other, z))

    by : (w : List ℕ) → ((m : ℕ) → 0 < length w → number m w % 10 ≢ 0) → 0 < length (zeros_behind b w) → number n (zeros_behind b w) % 10 ≢ 0
    by [] again h = one (b == 48) refl h
    by (c ∷ w) again h = again (10 * n + (b - 48)) (omega arith)

-- a number whose digits end in no zero is divided by ten with a rest
rest_stays : (negative : Bool) (k : ℕ) → k % 10 ≢ 0 → int_eq (int_rem (signed negative k) (pos 10)) (pos 0) ≡ false
rest_stays negative k h = false_from_ne_true _ (λ t. by negative k h ((Decides-int_eq (int_rem (signed negative k) (pos 10)) (pos 0)).0 t))
  where
    by : (z : Bool) (k : ℕ) → k % 10 ≢ 0 → int_rem (signed z k) (pos 10) ≡ pos 0 → ⊥
    by false k h e = h (omega (arith, ints, e))
    by true zero h e = h refl
    by true (suc j) h e = h (omega (arith, ints, e))

module _ (negative : Bool) (whole f : List ℕ) (are : AreDigits f) where
  abbrev kept : List ℕ
  kept = without_zeros f

  abbrev digits : ℕ
  digits = number (number 0 whole) kept

  last : 0 < length kept → digits % 10 ≢ 0
  last h = ends_in_none f are (number 0 whole) h

  too_large : (zeros : ℕ) → length f ≡ length kept + zeros → most negative < digits → Shifts None negative digits (zeros + 0) (length f)
  too_large zeros l big n least fits stands = by (nat_le 1 (length kept)) refl
    where
      by : (t : Bool) → nat_le 1 (length kept) ≡ t → ⊥
      by true t = let some : 0 < length kept = grind (arith, nat_tests) in not_above negative digits (zeros + 0) (length f) (last some) n least fits stands big
      by false t =
          let none : length kept ≡ 0 = grind (arith, nat_tests) in
          let fit : stands.0 ≤ most negative = magnitude negative stands.0 (subst IsI64 stands.1 fits) in
          let up : zeros + 0 + n.scale ≡ n.scale + length f = omega (arith, l, none) in
          let same : stands.0 ≡ tens digits n.scale = tens-cancel stands.0 (tens digits n.scale) (length f) (stands.2 ∙ ap (tens digits) up ∙ tens-add digits n.scale (length f)) in
          omega (arith, fit, same, tens-le digits n.scale, big)

  too_long : (zeros : ℕ) → length f ≡ length kept + zeros → 18 < length kept → Shifts None negative digits (zeros + 0) (length f)
  too_long zeros l long n least fits stands = not_lowered negative digits (zeros + 0) (length f) (last (omega (arith, long))) n least fits stands (omega (arith, l, long))

  of_kept : (zeros : ℕ) → length f ≡ length kept + zeros → Shifts (numeral negative whole kept) negative digits (zeros + 0) (length f)
  of_kept zeros l = by (nat_le (length kept) 18) refl (nat_le digits (most negative)) refl
    where
      by : (t : Bool) → nat_le (length kept) 18 ≡ t → (u : Bool) → nat_le digits (most negative) ≡ u
          → Shifts (if t then option_and_then (λ k. least (signed negative k) (length kept)) (cond u (Some digits) None) else None) negative digits (zeros + 0) (length f)
      by false e u g = let long : 18 < length kept = grind (arith, nat_tests) in too_long zeros l long
      by true e false g = let big : most negative < digits = grind (arith, nat_tests) in too_large zeros l big
      by true e true g =
          let few : length kept ≤ 18 = grind (arith, nat_tests) in
          subst (λ r. Shifts r negative digits (zeros + 0) (length f)) (sym (least_few (signed negative digits) (length kept) (λ some. rest_stays negative digits (last some)) few))
          (digits, refl, ap (tens digits) (omega (arith, l)))

  pub numeral_has_value : Shifts (numeral negative whole kept) negative (number 0 (whole ++ f)) 0 (length f)
  numeral_has_value =
      let m = trimmed (number 0 whole) f are in
      with_zeros (numeral negative whole kept) negative (number 0 (whole ++ f)) digits m.0 0 (length f) (number-append 0 whole f ∙ m.2) (of_kept m.0 m.1)

pub value_of_digits : (s : List ℕ) → IsNumberText s → HasValueOf s (number_of s)
value_of_digits s h = numeral_has_value (begins_with 45 s) (whole_digits s) (places s) (places_are_digits s h)
