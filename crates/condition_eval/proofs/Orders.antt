-- The order of texts and their equality.
use Rattle.std.proofs.Common.{◌≡◌, ◌⊎◌, inl, inr, ◌<◌, ◌≤◌, ℕ, zero, suc, ◌-◌, ◌*◌, ◌%◌, max, ℤ, pos, negsuc, ◌*ℤ◌, List, Bool, true, false, nat_lt, refl, sym, ap, ap₂, subst, ◌∙◌, true≢false, arith, rules}
use Rattle.std.specs.Prelude.{◌^◌, int_rem, neg_ℤ}
use Rattle.std.specs.Ordering.{is_le, is_ge, int_eq}
use lib.IntN.{one}
use Rattle.std.proofs.Math.Nat.{mul_assoc, pow-suc}
use Rattle.std.specs.Cmp.{tied_itself}
use Rattle.std.proofs.lemmas.Cmp.{int_cmp_total}
use Rattle.std.proofs.lemmas.Map.Lookups.{exact_signed}
use Rattle.std.proofs.Math.IntN.{pos-*ℤ-pos, negsuc-*ℤ-pos, *ℤ-one}
use Rattle.std.proofs.lemmas.Bool.Decides.{Decides-int_eq, nat_tests}
use Rattle.event_tree.specs.Number.{Num, IsLeast}
use Rattle.std.specs.declared.cmp.Ordering.{Ordering}
use Rattle.std.specs.declared.cmp.Ordering.TheVariants.{Less, Equal, Greater}
use Rattle.plain_data.specs.Keys.{text_cmp}
use Rattle.plain_data.proofs.KeyLemmas.{same_from_Equal, text_cmp-self}
use Rattle.event_tree.specs.declared.value.Value.{Value, out-Value}
use Rattle.event_tree.specs.declared.value.Value.TheOpen.{Value-F}
use Rattle.event_tree.specs.declared.value.Value.TheVariants as v
use Rattle.config_tree.specs.declared.operators.Comparison.TheVariants as is
use Rattle.condition_eval.specs.Equality.{are_equal}
use Rattle.condition_eval.specs.Laws.{AgreesWithEquality, AreLeast}
use Rattle.condition_eval.specs.Truths.{compared, truth_of, ordered}
use Rattle.condition_eval.specs.Values.{order_of, order_in, number_order, raised}
use Rattle.condition_eval.specs.declared.compare.ValueOrder.TheVariants as o
use Rattle.condition_eval.specs.declared.truth.Truth.TheVariants as t
use Rattle.condition_eval.proofs.EqualityLemmas.{equal_where, where_equal}
use Rattle.condition_eval.proofs.Outs.{out-Num, out-Text}

yes_true : (b : Bool) → truth_of b ≡ t.Yes → b ≡ true
yes_true true e = refl
yes_true false e = absurd (search (e, rules))

both_equal : (r : Ordering) → truth_of (is_le r) ≡ t.Yes → truth_of (is_ge r) ≡ t.Yes → r ≡ Equal
both_equal Less h k = absurd (search (k, rules))
both_equal Equal h k = refl
both_equal Greater h k = absurd (search (h, rules))

ordered_texts : (s r : List ℕ) → order_of (v.Text s) (v.Text r) ≡ o.Is (text_cmp s r)
ordered_texts s r = ap₂ order_in (out-Text s) (out-Text r)

text_in : Value-F Value → List ℕ → List ℕ
text_in (Value-F.Text s) d = s
text_in x d = d

one_text : (s r : List ℕ) → v.Text s ≡ v.Text r → s ≡ r
unfolding text_in
one_text s r e = ap (λ x. text_in x s) (sym (out-Text s) ∙ ap out-Value e ∙ out-Text r)

pub texts_agree : (s r : List ℕ) → AgreesWithEquality (v.Text s) (v.Text r)
texts_agree s r = (there, back)
  where
    there : (compared is.AtMost (v.Text s) (v.Text r) ≡ t.Yes) × (compared is.AtLeast (v.Text s) (v.Text r) ≡ t.Yes) → compared is.Equal (v.Text s) (v.Text r) ≡ t.Yes
    there h =
        let le : truth_of (is_le (text_cmp s r)) ≡ t.Yes = sym (ap (ordered is_le) (ordered_texts s r)) ∙ h.0 in
        let ge : truth_of (is_ge (text_cmp s r)) ≡ t.Yes = sym (ap (ordered is_ge) (ordered_texts s r)) ∙ h.1 in
        ap truth_of (equal_where (v.Text s) (v.Text r) (ap v.Text (same_from_Equal s r (both_equal (text_cmp s r) le ge))))

    back : compared is.Equal (v.Text s) (v.Text r) ≡ t.Yes → (compared is.AtMost (v.Text s) (v.Text r) ≡ t.Yes) × (compared is.AtLeast (v.Text s) (v.Text r) ≡ t.Yes)
    back h =
        let same : s ≡ r = one_text s r (where_equal (v.Text s) (v.Text r) (yes_true (are_equal (v.Text s) (v.Text r)) h)) in
        let tie : text_cmp s r ≡ Equal = subst (λ x. text_cmp s x ≡ Equal) same (text_cmp-self s) in
        (ap (ordered is_le) (ordered_texts s r ∙ ap o.Is tie), ap (ordered is_ge) (ordered_texts s r ∙ ap o.Is tie))

-- ---- numbers

tens_rest : (n k : ℕ) → n ≡ k * 10 → int_rem (pos n) (pos 10) ≡ pos 0
tens_rest n k e = let r : n % 10 ≡ 0 = omega (arith, e) in ap pos r

-- a multiple of ten is divided by ten without a rest
tenfold : (z : ℤ) (q : ℕ) → int_rem (z *ℤ pos (q * 10)) (pos 10) ≡ pos 0
tenfold (pos m) q = ap (λ x. int_rem x (pos 10)) (pos-*ℤ-pos m (q * 10)) ∙ tens_rest (m * (q * 10)) (m * q) (sym (mul_assoc m q 10))
tenfold (negsuc m) q = ap (λ x. int_rem x (pos 10)) (negsuc-*ℤ-pos m (q * 10)) ∙ negative (suc m * (q * 10)) (sym (mul_assoc (suc m) q 10))
  where
    negative : (n : ℕ) → n ≡ suc m * q * 10 → int_rem (neg_ℤ (pos n)) (pos 10) ≡ pos 0
    negative zero e = refl
    negative (suc n) e = let r : suc n % 10 ≡ 0 = omega (arith, e) in ap (λ k. neg_ℤ (pos k)) r

-- a number in least form with places is no multiple of ten
not_tenfold : (z w : ℤ) (s q : ℕ) → IsLeast z (suc s) → z ≡ w *ℤ pos (q * 10) → ⊥
not_tenfold z w s q least e = by least.trimmed
  where
    by : (suc s ≡ 0) ⊎ (int_eq (int_rem z (pos 10)) (pos 0) ≡ false) → ⊥
    by (inl h) = absurd (omega (arith, h))
    by (inr h) = true≢false (sym ((Decides-int_eq (int_rem z (pos 10)) (pos 0)).1 (ap (λ x. int_rem x (pos 10)) e ∙ tenfold w q)) ∙ h)

flat : (z : ℤ) (k : ℕ) → k ≡ 0 → z *ℤ pos (10 ^ k) ≡ z
unfolding one
flat z k e = ap (λ n. z *ℤ pos (10 ^ n)) e ∙ *ℤ-one z

power : (k : ℕ) → 0 < k → 10 ^ k ≡ 10 ^ (k - 1) * 10
power zero h = absurd (omega (arith, h))
power (suc k) h = let e : suc k - 1 ≡ k = omega arith in pow-suc 10 k ∙ ap (λ n. 10 ^ n * 10) (sym e)

-- one of two numbers in least form has more places: then they aren't equal
more_places : (z w : ℤ) (s r p : ℕ) → IsLeast z s → r < s → p ≡ s → z *ℤ pos (10 ^ (p - s)) ≡ w *ℤ pos (10 ^ (p - r)) → ⊥
more_places z w zero r p least h e same = absurd (omega (arith, h))
more_places z w (suc s) r p least h e same =
    let none : p - suc s ≡ 0 = omega (arith, e) in
    let some : 0 < p - r = omega (arith, e, h) in
    not_tenfold z w s (10 ^ (p - r - 1)) least (sym (flat z (p - suc s) none) ∙ same ∙ ap (λ n. w *ℤ pos n) (power (p - r) some))

one_number : (m n : Num) → IsLeast m.mantissa m.scale → IsLeast n.mantissa n.scale → raised (max m.scale n.scale) m ≡ raised (max m.scale n.scale) n → m ≡ n
one_number m n lm ln e = by (nat_lt m.scale n.scale) refl (nat_lt n.scale m.scale) refl
  where
    by : (t : Bool) → nat_lt m.scale n.scale ≡ t → (u : Bool) → nat_lt n.scale m.scale ≡ u → m ≡ n
    by true f u g = let l : m.scale < n.scale = grind (arith, nat_tests) in let p : max m.scale n.scale ≡ n.scale = omega (arith, l) in absurd (more_places n.mantissa m.mantissa n.scale m.scale (max m.scale n.scale) ln l p (sym e))
    by false f true g = let l : n.scale < m.scale = grind (arith, nat_tests) in let p : max m.scale n.scale ≡ m.scale = omega (arith, l) in absurd (more_places m.mantissa n.mantissa m.scale n.scale (max m.scale n.scale) lm l p e)
    by false f false g =
        let a : n.scale ≤ m.scale = grind (arith, nat_tests) in
        let b : m.scale ≤ n.scale = grind (arith, nat_tests) in
        let same : m.scale ≡ n.scale = omega (arith, a, b) in
        let pm : max m.scale n.scale - m.scale ≡ 0 = omega (arith, a, b) in
        let pn : max m.scale n.scale - n.scale ≡ 0 = omega (arith, a, b) in
        let mantissas : m.mantissa ≡ n.mantissa = sym (flat m.mantissa (max m.scale n.scale - m.scale) pm) ∙ e ∙ flat n.mantissa (max m.scale n.scale - n.scale) pn in
        λ i. record { mantissa = mantissas i; scale = same i }

ordered_numbers : (m n : Num) → order_of (v.Num m) (v.Num n) ≡ o.Is (number_order m n)
ordered_numbers m n = ap₂ order_in (out-Num m) (out-Num n)

number_in : Value-F Value → Num → Num
number_in (Value-F.Num n) d = n
number_in x d = d

same_number : (m n : Num) → v.Num m ≡ v.Num n → m ≡ n
unfolding number_in
same_number m n e = ap (λ x. number_in x m) (sym (out-Num m) ∙ ap out-Value e ∙ out-Num n)

pub numbers_agree : (m n : Num) → AreLeast m n → AgreesWithEquality (v.Num m) (v.Num n)
unfolding number_order
numbers_agree m n least = (there, back)
  where
    there : (compared is.AtMost (v.Num m) (v.Num n) ≡ t.Yes) × (compared is.AtLeast (v.Num m) (v.Num n) ≡ t.Yes) → compared is.Equal (v.Num m) (v.Num n) ≡ t.Yes
    there h =
        let le : truth_of (is_le (number_order m n)) ≡ t.Yes = sym (ap (ordered is_le) (ordered_numbers m n)) ∙ h.0 in
        let ge : truth_of (is_ge (number_order m n)) ≡ t.Yes = sym (ap (ordered is_ge) (ordered_numbers m n)) ∙ h.1 in
        let same : raised (max m.scale n.scale) m ≡ raised (max m.scale n.scale) n = exact_signed (raised (max m.scale n.scale) m) (raised (max m.scale n.scale) n) (both_equal (number_order m n) le ge) in
        ap truth_of (equal_where (v.Num m) (v.Num n) (ap v.Num (one_number m n least.0 least.1 same)))

    back : compared is.Equal (v.Num m) (v.Num n) ≡ t.Yes → (compared is.AtMost (v.Num m) (v.Num n) ≡ t.Yes) × (compared is.AtLeast (v.Num m) (v.Num n) ≡ t.Yes)
    back h =
        let same : m ≡ n = same_number m n (where_equal (v.Num m) (v.Num n) (yes_true (are_equal (v.Num m) (v.Num n)) h)) in
        let tie : number_order m n ≡ Equal = subst (λ x. number_order m x ≡ Equal) same (tied_itself int_cmp_total (raised (max m.scale m.scale) m)) in
        (ap (ordered is_le) (ordered_numbers m n ∙ ap o.Is tie), ap (ordered is_ge) (ordered_numbers m n ∙ ap o.Is tie))
