-- The number that a text writes is the one that has its value.
use Rattle.std.proofs.Common.{◌≡◌, ℕ, zero, suc, ◌+◌, ◌-◌, ◌/◌, ◌%◌, ◌<◌, ◌≤◌, ◌==◌, List, ◌++◌, nat_le, Bool, true, false, Option, Some, None, pos, refl, sym, ap, subst, ◌∙◌, arith, inl, inr, ◌⊎◌, option_and_then, eqb-true}
use Rattle.std.specs.Prelude.{int_rem}
use Rattle.std.proofs.lemmas.Int.{ints}
use Rattle.std.proofs.lemmas.Bool.{false_from_ne_true}
use Rattle.std.proofs.lemmas.Bool.Decides.{nat_tests, Decides-int_eq}
use Rattle.event_tree.specs.Number.{Num, IsLeast, least}
use Rattle.event_tree.proofs.Least.{least_few}
use Rattle.event_tree.specs.NumberTexts.{Decimal, decimal_of, IsI64, StandsFor, ValueReads, NumberReads, number, tens, signed, most, raised_by, lowered_by}
use Rattle.event_tree.proofs.Tens.{tens-add, tens-cancel}
use Rattle.event_json.specs.Numbers.{Places, stripped, held_number, value_of, number_of}
use Rattle.event_json.proofs.Tests.{bool_cases}

abbrev IsStripped : ℕ → ℕ → Places → Type 0
IsStripped m s p = (p.places ≤ s) × (tens p.digits (s - p.places) ≡ m) × ((p.places ≡ 0) ⊎ (p.digits % 10 ≡ 0 → ⊥))

one_more : (m s : ℕ) (p : Places) → m % 10 ≡ 0 → IsStripped (m / 10) s p → IsStripped m (suc s) p
one_more m s p e h = let k : suc s - p.places ≡ suc (s - p.places) = omega (arith, h.0) in (omega (arith, h.0), ap (tens p.digits) k ∙ omega (arith, h.1), h.2)

none_more : (m s : ℕ) → (m % 10 == 0) ≡ false → IsStripped m (suc s) (record { digits = m; places = suc s })
none_more m s e = let k : suc s - suc s ≡ 0 = omega arith in (omega arith, ap (tens m) k, inr (grind (arith, nat_tests)))

stripped_is : (m s : ℕ) → IsStripped m s (stripped m s)
stripped_is m zero = (omega arith, refl, inl refl)
stripped_is m (suc s) = bool_cases (m % 10 == 0) (λ e. rw e (one_more m s (stripped (m / 10) s) (eqb-true (m % 10) 0 e) (stripped_is (m / 10) s))) (λ e. rw e (none_more m s e))

tens_rem : (m k : ℕ) → tens m (suc k) % 10 ≡ 0
tens_rem m k = omega arith

-- of a number that has the value, the digits and the places are those
one_way : (n l r s q t k : ℕ) → t ≤ l → tens q (l - t) ≡ tens n r → tens k l ≡ tens n (r + s) → tens k l ≡ tens q (l - t + s)
one_way n l r s q t k h e f = f ∙ tens-add n r s ∙ ap (λ x. tens x s) (sym e) ∙ sym (tens-add q (l - t) s)

lower : (l s q t k : ℕ) → t ≤ l → s ≤ t → tens k l ≡ tens q (l - t + s) → tens k (t - s) ≡ q
lower l s q t k h le e =
    let i : l ≡ (t - s) + (l - t + s) = omega arith in
    tens-cancel (tens k (t - s)) q (l - t + s) (sym (tens-add k (t - s) (l - t + s)) ∙ ap (tens k) (sym i) ∙ e)

higher : (l s q t k : ℕ) → t ≤ l → t ≤ s → tens k l ≡ tens q (l - t + s) → k ≡ tens q (s - t)
higher l s q t k h le e =
    let i : l - t + s ≡ (s - t) + l = omega arith in
    tens-cancel k (tens q (s - t)) l (e ∙ ap (tens q) i ∙ tens-add q (s - t) l)

no_rest : (d : ℕ) → tens d 0 % 10 ≡ d % 10
no_rest d = refl

rem_of_tens : (d k : ℕ) → 0 < k → tens d k % 10 ≡ 0
rem_of_tens d zero h = absurd (omega arith)
rem_of_tens d (suc k) h = tens_rem d k

signed_rem : (negative : Bool) (k : ℕ) → k % 10 ≡ 0 → int_rem (signed negative k) (pos 10) ≡ pos 0
signed_rem true k e = omega (arith, ints)
signed_rem false k e = omega (arith, ints)

signed_rest : (negative : Bool) (k : ℕ) → int_rem (signed negative k) (pos 10) ≡ pos 0 → k % 10 ≡ 0
signed_rest true k e = omega (arith, ints)
signed_rest false k e = omega (arith, ints)

not_trimmed : (negative : Bool) (k s : ℕ) → 0 < s → k % 10 ≡ 0 → IsLeast (signed negative k) s → ⊥
not_trimmed negative k s some e h = elim h.trimmed [ inl z ↦ omega arith | inr f ↦ differ (sym f ∙ (Decides-int_eq (int_rem (signed negative k) (pos 10)) (pos 0)).1 (signed_rem negative k e)) ]
  where
    differ : false ≡ true → ⊥
    differ e = cc

same_parts : (negative : Bool) (l s q t k : ℕ) → t ≤ l → ((t ≡ 0) ⊎ (q % 10 ≡ 0 → ⊥)) → IsLeast (signed negative k) s → tens k l ≡ tens q (l - t + s) → (k ≡ q) × (s ≡ t)
same_parts negative l s q t k h trimmed least e = bool_cases (nat_le s t)
    (λ le. let le2 : s ≤ t = grind (arith, nat_tests) in below le2)
    (λ gt. let gt2 : t < s = grind (arith, nat_tests) in above gt2)
  where
    at : (j : ℕ) → t - s ≡ j → s ≤ t → tens k j ≡ q → (k ≡ q) × (s ≡ t)
    at zero j le f = (f, omega arith)
    at (suc j) i le f = elim trimmed [ inl z ↦ absurd (omega arith) | inr never ↦ absurd (never (ap (λ x. x % 10) (sym f) ∙ tens_rem k j)) ]

    below : s ≤ t → (k ≡ q) × (s ≡ t)
    below le = at (t - s) refl le (lower l s q t k h le e)

    above : t < s → (k ≡ q) × (s ≡ t)
    above gt = absurd (not_trimmed negative k s (omega arith) (ap (λ x. x % 10) (higher l s q t k h (omega arith) e) ∙ rem_of_tens q (s - t) (omega arith)) least)

magnitude : (negative : Bool) (k : ℕ) → IsI64 (signed negative k) → k ≤ most negative
magnitude true k h = omega (arith, ints, h.0)
magnitude false k h = omega (arith, ints, h.1)

held_some : (negative : Bool) (k s : ℕ) → s ≤ 18 → k ≤ most negative → held_number negative (record { digits = k; places = s }) ≡ Some (record { mantissa = signed negative k; scale = s })
held_some negative k s few small = let a : nat_le s 18 ≡ true = grind (arith, nat_tests) in let b : nat_le k (most negative) ≡ true = grind (arith, nat_tests) in rw (a, b) refl

-- a number of 64 bits in least form that has the value is the one
stands_is : (d : Decimal) (n : Num) → IsLeast n.mantissa n.scale → IsI64 n.mantissa → StandsFor n d → value_of d ≡ Some n
stands_is d n least fits (k, signed_is, stands) =
    let p = stripped (tens (number 0 (d.whole ++ d.fraction)) (raised_by d)) (lowered_by d) in
    let i = stripped_is (tens (number 0 (d.whole ++ d.fraction)) (raised_by d)) (lowered_by d) in
    let least2 : IsLeast (signed d.negative k) n.scale = subst (λ z. IsLeast z n.scale) signed_is least in
    let same = same_parts d.negative (lowered_by d) n.scale p.digits p.places k i.0 i.2 least2 (one_way (number 0 (d.whole ++ d.fraction)) (lowered_by d) (raised_by d) n.scale p.digits p.places k i.0 i.1 stands) in
    let parts : ◌≡◌ {A = Places} p (record { digits = k; places = n.scale }) = λ j. record { digits = sym same.0 j; places = sym same.1 j } in
    ap (held_number d.negative) parts ∙ held_some d.negative k n.scale least.few (magnitude d.negative k (subst IsI64 signed_is fits)) ∙ λ j. Some (record { mantissa = sym signed_is j; scale = n.scale })

-- ---- what is computed has the value

fits_i64 : (negative : Bool) (k : ℕ) → k ≤ most negative → IsI64 (signed negative k)
fits_i64 true k h = (omega (arith, ints), omega (arith, ints))
fits_i64 false k h = (omega (arith, ints), omega (arith, ints))

least_of : (negative : Bool) (p : Places) → p.places ≤ 18 → ((p.places ≡ 0) ⊎ (p.digits % 10 ≡ 0 → ⊥)) → IsLeast (signed negative p.digits) p.places
least_of negative p few (inl z) = record { few = few; trimmed = inl z }
least_of negative p few (inr never) = record { few = few; trimmed = inr (false_from_ne_true _ (λ t. never (signed_rest negative p.digits ((Decides-int_eq (int_rem (signed negative p.digits) (pos 10)) (pos 0)).0 t)))) }

stands_for : (d : Decimal) (p : Places) → IsStripped (tens (number 0 (d.whole ++ d.fraction)) (raised_by d)) (lowered_by d) p → StandsFor (record { mantissa = signed d.negative p.digits; scale = p.places }) d
stands_for d p i =
    let n = number 0 (d.whole ++ d.fraction) in
    let e : lowered_by d ≡ (lowered_by d - p.places) + p.places = omega (arith, i.0) in
    (p.digits, refl, ap (tens p.digits) e ∙ tens-add p.digits (lowered_by d - p.places) p.places ∙ ap (λ x. tens x p.places) i.1 ∙ sym (tens-add n (raised_by d) p.places))

none_held : (d : Decimal) (p : Places) → IsStripped (tens (number 0 (d.whole ++ d.fraction)) (raised_by d)) (lowered_by d) p → ValueReads None d → held_number d.negative p ≡ None
none_held d p i none = bool_cases (nat_le p.places 18) (λ a. bool_cases (nat_le p.digits (most d.negative))
    (λ b. let few : p.places ≤ 18 = grind (arith, nat_tests) in let small : p.digits ≤ most d.negative = grind (arith, nat_tests) in
    absurd (none (record { mantissa = signed d.negative p.digits; scale = p.places }) (least_of d.negative p few i.2) (fits_i64 d.negative p.digits small) (stands_for d p i)))
    (λ b. rw (a, b) refl)) (λ a. rw a refl)

none_is : (d : Decimal) → ValueReads None d → value_of d ≡ None
none_is d none = none_held d (stripped (tens (number 0 (d.whole ++ d.fraction)) (raised_by d)) (lowered_by d)) (stripped_is (tens (number 0 (d.whole ++ d.fraction)) (raised_by d)) (lowered_by d)) none

none_reads : (text : List ℕ) (o : Option Decimal) → decimal_of text ≡ o → ((d : Decimal) → decimal_of text ≡ Some d → ValueReads None d) → option_and_then value_of o ≡ None
none_reads text None e h = refl
none_reads text (Some d) e h = none_is d (h d e)

-- what `Number::read` gives is what is computed
pub number_read_none : (text : List ℕ) → NumberReads None text → number_of text ≡ None
unfolding number_of
number_read_none text h = none_reads text (decimal_of text) refl h

pub number_read_some : (text : List ℕ) (n : Num) → IsLeast n.mantissa n.scale → IsI64 n.mantissa → NumberReads (Some n) text → number_of text ≡ Some n
unfolding number_of
number_read_some text n least fits h = ap (option_and_then value_of) h.1 ∙ stands_is h.0 n least fits h.2

-- a number in least form is its own least form
pub least_same : (n : Num) → IsLeast n.mantissa n.scale → least n.mantissa n.scale ≡ Some n
least_same n h = elim h.trimmed [ inl z ↦ least_few n.mantissa n.scale (λ p. absurd (omega (arith, p, z))) h.few | inr f ↦ least_few n.mantissa n.scale (λ p. f) h.few ]
