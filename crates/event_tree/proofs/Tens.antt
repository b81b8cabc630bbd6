-- Powers of ten, and numbers that are digits with zeros behind them.
use Rattle.std.proofs.Common.{◌≡◌, ◌≢◌, ℕ, zero, suc, ◌+◌, ◌-◌, ◌*◌, ◌%◌, ◌<◌, ◌≤◌, List, [], ◌∷◌, ◌++◌, length, take, get_or, nat_le, Bool, true, false, cond, if◌then◌else◌, Some, None, option_and_then, refl, sym, ap, subst, ◌∙◌, arith, rules}
use Rattle.std.proofs.lemmas.Bool.Decides.{nat_tests}
use Rattle.event_tree.specs.Number.{least}
use Rattle.event_tree.specs.NumberTexts.{is_digit, AreDigits, number, numeral, signed, most, tens}
use Rattle.event_tree.specs.Paths.{at_most}

pub tens-ten : (n k : ℕ) → tens (10 * n) k ≡ 10 * tens n k
tens-ten n zero = refl
tens-ten n (suc k) = omega (arith, tens-ten n k)

pub tens-add : (n a b : ℕ) → tens n (a + b) ≡ tens (tens n a) b
tens-add n a zero = ap (tens n) (omega arith)
tens-add n a (suc b) = let e : a + suc b ≡ suc (a + b) = omega arith in ap (tens n) e ∙ ap (λ x. 10 * x) (tens-add n a b)

pub tens-cancel : (n m k : ℕ) → tens n k ≡ tens m k → n ≡ m
tens-cancel n m zero e = e
tens-cancel n m (suc k) e = tens-cancel n m k (omega arith)

pub tens-le : (n k : ℕ) → n ≤ tens n k
tens-le n zero = omega arith
tens-le n (suc k) = omega (arith, tens-le n k)

pub tens-mono : (n k j : ℕ) → k ≤ j → tens n k ≤ tens n j
tens-mono n k j h = let e : k + (j - k) ≡ j = omega arith in omega (arith, tens-le (tens n k) (j - k), tens-add n k (j - k), ap (tens n) e)

pub tens-zero : (k : ℕ) → tens 0 k ≡ 0
tens-zero zero = refl
tens-zero (suc k) = omega (arith, tens-zero k)

pub tens-big : (n k : ℕ) → 0 < n → 20 ≤ k → 9223372036854775808 < tens n k
tens-big n k p h = omega (arith, tens-mono n 20 k h)

-- a number with no zero at its end that equals another with zeros behind both
pub reach : (k m a b : ℕ) → m % 10 ≢ 0 → tens k a ≡ tens m b → (a ≤ b) × (k ≡ tens m (b - a))
reach k m a b trimmed e = by (nat_le a b) refl
  where
    by : (t : Bool) → nat_le a b ≡ t → (a ≤ b) × (k ≡ tens m (b - a))
    by true t =
        let h : a ≤ b = grind (arith, nat_tests) in
        let s : (b - a) + a ≡ b = omega arith in
        (h, tens-cancel k (tens m (b - a)) a (e ∙ ap (tens m) (sym s) ∙ tens-add m (b - a) a))
    by false t =
        let h : b < a = grind (arith, nat_tests) in
        let s : suc (a - b - 1) + b ≡ a = omega arith in
        let q : tens k (suc (a - b - 1)) ≡ m = tens-cancel (tens k (suc (a - b - 1))) m b (sym (tens-add k (suc (a - b - 1)) b) ∙ ap (tens k) s ∙ e) in
        let r : m % 10 ≡ 0 = omega arith in
        absurd (trimmed r)

pub number-append : (n : ℕ) (xs ys : List ℕ) → number n (xs ++ ys) ≡ number (number n xs) ys
number-append n [] ys = refl
number-append n (x ∷ xs) ys = number-append (10 * n + (x - 48)) xs ys

-- the same as one run of digits, where there are few places
pub numeral_is : (negative : Bool) (whole places : List ℕ) → nat_le (length places) 18 ≡ true
    → numeral negative whole places ≡ option_and_then (λ k. least (signed negative k) (length places)) (at_most (most negative) (Some (number 0 (whole ++ places))))
numeral_is negative whole places few =
    ap (λ t. if t then option_and_then (λ k. least (signed negative k) (length places)) (at_most (most negative) (Some (number (number 0 whole) places))) else None) few
    ∙ ap (λ n. option_and_then (λ k. least (signed negative k) (length places)) (at_most (most negative) (Some n))) (sym (number-append 0 whole places))

pub number-grows : (n : ℕ) (xs : List ℕ) → n ≤ number n xs
number-grows n [] = omega arith
number-grows n (x ∷ xs) = omega (arith, number-grows (10 * n + (x - 48)) xs)

-- the last of the digits by itself
pub number-last : (n : ℕ) (ds : List ℕ) (i : ℕ) → i < length ds → number n (take (suc i) ds) ≡ 10 * number n (take i ds) + (get_or ds i 0 - 48)
number-last n [] i h = absurd (omega arith)
number-last n (d ∷ ds) zero h = refl
number-last n (d ∷ ds) (suc i) h = number-last (10 * n + (d - 48)) ds i (omega arith)

digit_at : (ds : List ℕ) (i : ℕ) → AreDigits ds → i < length ds → (48 ≤ get_or ds i 0) × (get_or ds i 0 ≤ 57)
digit_at [] i a h = absurd (omega arith)
digit_at (d ∷ ds) zero a h = let t : is_digit d ≡ true = a.0 in (grind (arith, nat_tests), grind (arith, nat_tests))
digit_at (d ∷ ds) (suc i) a h = digit_at ds i a.1 (omega arith)

-- digits that end in no zero
pub number-trimmed : (n : ℕ) (ds : List ℕ) (count : ℕ) → AreDigits ds → count ≤ length ds → 0 < count → get_or ds (count - 1) 0 ≢ 48 → number n (take count ds) % 10 ≢ 0
number-trimmed n ds zero a w p l = absurd (omega arith)
number-trimmed n ds (suc i) a w p l =
    let e : suc i - 1 ≡ i = omega arith in
    let d = digit_at ds i a (omega arith) in
    let x : get_or ds i 0 ≢ 48 = subst (λ j. get_or ds j 0 ≢ 48) e l in
    λ z. absurd (omega (arith, number-last n ds i (omega arith), d.0, d.1, x, z))

pub number-zero : (n : ℕ) (ds : List ℕ) (i : ℕ) → i < length ds → get_or ds i 0 ≡ 48 → number n (take (suc i) ds) ≡ 10 * number n (take i ds)
number-zero n ds i h e = omega (arith, number-last n ds i h, e)

pub at_most_none : (n k : ℕ) → at_most n (Some k) ≡ None → n < k
at_most_none n k h = by (nat_le k n) refl h
  where
    by : (t : Bool) → nat_le k n ≡ t → cond t (Some k) None ≡ None → n < k
    by true e h = absurd (search (h, rules))
    by false e h = grind (arith, nat_tests)

pub at_most_some : (n k r : ℕ) → at_most n (Some k) ≡ Some r → (r ≡ k) × (k ≤ n)
at_most_some n k r h = by (nat_le k n) refl h
  where
    by : (t : Bool) → nat_le k n ≡ t → cond t (Some k) None ≡ Some r → (r ≡ k) × (k ≤ n)
    by true e h = let s : k ≡ r = search (h, rules) in (sym s, grind (arith, nat_tests))
    by false e h = absurd (search (h, rules))

pub at_most_past : (n k : ℕ) → n < k → at_most n (Some k) ≡ None
at_most_past n k h = let t : nat_le k n ≡ false = grind (arith, nat_tests) in rw t

pub at_most_within : (n k : ℕ) → k ≤ n → at_most n (Some k) ≡ Some k
at_most_within n k h = let t : nat_le k n ≡ true = grind (arith, nat_tests) in rw t
