-- What the least form of a number is.
use Rattle.std.proofs.Common.{◌≡◌, ℕ, zero, suc, ◌+◌, ◌-◌, ◌*◌, ◌/◌, ◌<◌, ◌≤◌, nat_le, if◌then◌else◌, ℤ, pos, negsuc, unsigned_abs, Bool, true, false, Option, Some, None, refl, sym, ap, subst, ◌∙◌, arith, rules, inl, inr}
use Rattle.std.proofs.lemmas.Option.{same_Some}
use Rattle.std.specs.Prelude.{int_rem, int_div}
use Rattle.std.specs.Ordering.{int_eq}
use Rattle.std.proofs.lemmas.Int.{ints}
use Rattle.std.proofs.lemmas.Bool.Decides.{nat_tests, Decides-int_eq}
use Rattle.event_tree.specs.Number.{Num, IsLeast, least}
use Rattle.event_tree.specs.NumberTexts.{signed, tens}
use Rattle.event_tree.proofs.Tens.{tens-ten, tens-add, tens-cancel}
use Rattle.event_json.proofs.Tests.{bool_cases}
use Rattle.event_json.specs.LeastForms.{IsValueOf}

sign_of : (m : ℤ) → (negative : Bool) × (m ≡ signed negative (unsigned_abs m))
sign_of (pos n) = (false, refl)
sign_of (negsuc n) = (true, refl)

-- a number is in its own form
itself : (m : ℤ) (s : ℕ) → IsValueOf m s (record { mantissa = m; scale = s })
itself m s = let z = sign_of m in (z.0, unsigned_abs m, unsigned_abs m, z.1, z.1, refl)

ten_times : (m : ℤ) (negative : Bool) (a : ℕ) → int_rem m (pos 10) ≡ pos 0 → int_div m (pos 10) ≡ signed negative a → m ≡ signed negative (10 * a)
ten_times m true a e q = omega (arith, ints, e, q)
ten_times m false a e q = omega (arith, ints, e, q)

a_tenth : (m : ℤ) (negative : Bool) (a : ℕ) → int_rem m (pos 10) ≡ pos 0 → m ≡ signed negative a → (int_div m (pos 10) ≡ signed negative (a / 10)) × (10 * (a / 10) ≡ a)
a_tenth m true a e q = (omega (arith, ints, e, q), omega (arith, ints, e, q))
a_tenth m false a e q = (omega (arith, ints, e, q), omega (arith, ints, e, q))

rem_is : (m : ℤ) → int_eq (int_rem m (pos 10)) (pos 0) ≡ true → int_rem m (pos 10) ≡ pos 0
rem_is m e = (Decides-int_eq (int_rem m (pos 10)) (pos 0)).0 e

raised : (m : ℤ) (s : ℕ) (n : Num) → int_rem m (pos 10) ≡ pos 0 → IsValueOf (int_div m (pos 10)) s n → IsValueOf m (suc s) n
raised m s n e (negative, a, b, q, same, h) = (negative, 10 * a, b, ten_times m negative a e q, same, tens-ten a n.scale ∙ ap (λ x. 10 * x) h)

lowered : (m : ℤ) (s : ℕ) (n : Num) → int_rem m (pos 10) ≡ pos 0 → IsValueOf m (suc s) n → IsValueOf (int_div m (pos 10)) s n
lowered m s n e (negative, a, b, q, same, h) = let t = a_tenth m negative a e q in
    (negative, a / 10, b, t.0, same, tens-cancel (tens (a / 10) n.scale) (tens b s) 1 (sym (tens-ten (a / 10) n.scale) ∙ ap (λ x. tens x n.scale) t.1 ∙ h))

abbrev IsTheLeast : Num → ℤ → ℕ → Type 0
IsTheLeast n m s = IsLeast n.mantissa n.scale × IsValueOf m s n

here : (m : ℤ) (s : ℕ) (n : Num) → IsLeast m s → ◌≡◌ {A = Num} (record { mantissa = m; scale = s }) n → IsTheLeast n m s
here m s n l e = subst (λ x. IsTheLeast x m s) e (l, itself m s)

pub least_some : (m : ℤ) (s : ℕ) (n : Num) → least m s ≡ Some n → IsTheLeast n m s
least_some m zero n h = here m zero n (record { few = omega arith; trimmed = inl refl }) (same_Some (record { mantissa = m; scale = 0 }) n h)
least_some m (suc s) n h = bool_cases (int_eq (int_rem m (pos 10)) (pos 0)) (λ e. deeper e (least_some (int_div m (pos 10)) s n (rw e at h))) (λ e. ends e (nat_le (suc s) 18) refl (rw e at h))
  where
    deeper : int_eq (int_rem m (pos 10)) (pos 0) ≡ true → IsTheLeast n (int_div m (pos 10)) s → IsTheLeast n m (suc s)
    deeper e i = (i.0, raised m s n (rem_is m e) i.1)

    ends : int_eq (int_rem m (pos 10)) (pos 0) ≡ false → (t : Bool) → nat_le (suc s) 18 ≡ t → ◌≡◌ {A = Option Num} (if t then Some (record { mantissa = m; scale = suc s }) else None) (Some n) → IsTheLeast n m (suc s)
    ends e true t k = let few : suc s ≤ 18 = grind (arith, nat_tests) in here m (suc s) n (record { few = few; trimmed = inr e }) (same_Some (record { mantissa = m; scale = suc s }) n k)
    ends e false t k = absurd (search (k, rules))

-- digits that more places lead to end in a zero
ends_in_zero : (m : ℤ) (negative : Bool) (b k : ℕ) → m ≡ signed negative (tens b (suc k)) → int_rem m (pos 10) ≡ pos 0
ends_in_zero m true b k e = omega (arith, ints, e)
ends_in_zero m false b k e = omega (arith, ints, e)

false_true : false ≡ true → ⊥
false_true e = search (e, rules)

too_many : (m : ℤ) (s : ℕ) (n : Num) → int_eq (int_rem m (pos 10)) (pos 0) ≡ false → 18 < suc s → n.scale ≤ 18 → IsValueOf m (suc s) n → ⊥
too_many m s n e many few (negative, a, b, q, same, h) =
    let k = s - n.scale in
    let split : suc s ≡ suc k + n.scale = omega arith in
    let digits : a ≡ tens b (suc k) = tens-cancel a (tens b (suc k)) n.scale (h ∙ ap (tens b) split ∙ tens-add b (suc k) n.scale) in
    let zero_end : int_rem m (pos 10) ≡ pos 0 = ends_in_zero m negative b k (q ∙ ap (signed negative) digits) in
    false_true (sym e ∙ (Decides-int_eq (int_rem m (pos 10)) (pos 0)).1 zero_end)

pub least_none : (m : ℤ) (s : ℕ) → least m s ≡ None → (n : Num) → IsLeast n.mantissa n.scale → IsValueOf m s n → ⊥
least_none m zero h n l i = search (h, rules)
least_none m (suc s) h n l i = bool_cases (int_eq (int_rem m (pos 10)) (pos 0)) (λ e. least_none (int_div m (pos 10)) s (rw e at h) n l (lowered m s n (rem_is m e) i)) (λ e. ends e (nat_le (suc s) 18) refl (rw e at h))
  where
    ends : int_eq (int_rem m (pos 10)) (pos 0) ≡ false → (t : Bool) → nat_le (suc s) 18 ≡ t → ◌≡◌ {A = Option Num} (if t then Some (record { mantissa = m; scale = suc s }) else None) None → ⊥
    ends e true t k = search (k, rules)
    ends e false t k = let many : 18 < suc s = grind (arith, nat_tests) in too_many m s n e many l.few i
