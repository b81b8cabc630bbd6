-- A number as it is written is a number of the grammar, and its value is that number.
use Rattle.std.proofs.Common.{◌≡◌, ℕ, zero, suc, ◌+◌, ◌-◌, ◌^◌, ◌<◌, ◌≤◌, ◌==◌, ℤ, pos, negsuc, unsigned_abs, Bool, true, false, nat_le, nat_lt, List, [], ◌∷◌, ◌++◌, length, take, drop, Some, refl, sym, ap, ◌∙◌, arith, inl, inr, eqb-true}
use Rattle.std.specs.Prelude.{decimal, slice_index}
use Rattle.std.proofs.lemmas.Bool.Decides.{nat_tests}
use Rattle.std.proofs.lemmas.Int.{ints}
use Rattle.std.proofs.lemmas.List.{append-nil, take-append-drop, length-drop, length-take}
use Rattle.std.proofs.Math.Seq.{take-length, drop-length}
use Rattle.std.proofs.lemmas.Fmt.{decimal_digit, first_decimal}
use Rattle.event_tree.specs.Number.{Num, IsLeast}
use Rattle.event_tree.specs.NumberTexts.{Decimal, is_digit, AreDigits, digits_front, digits_behind, is_whole, decimal_of, decimal_behind, split_minus, number, tens, signed, IsI64, NumberReads}
use Rattle.event_json.specs.Grammar as g
use Rattle.event_json.proofs.Tests.{bool_cases}
use Rattle.event_json.specs.Numbers.{number_of}
use Rattle.event_json.proofs.NumberLaws.{number_read_some}
use Rattle.event_json.proofs.DecimalDigits.{padded_writes, take_digits, drop_digits, length-padded}
use Rattle.event_json.specs.Json.{zeros, padded, pointed, sign_of, number_text}

-- ---- scanning

pub front_all : (ds : List ℕ) → AreDigits ds → digits_front ds ≡ ds
front_all [] h = refl
front_all (d ∷ ds) h = rw h.0 (ap (λ ys. d ∷ ys) (front_all ds h.1))

pub behind_all : (ds : List ℕ) → AreDigits ds → digits_behind ds ≡ []
behind_all [] h = refl
behind_all (d ∷ ds) h = rw h.0 (behind_all ds h.1)

front_point : (ds more : List ℕ) → AreDigits ds → digits_front (ds ++ 46 ∷ more) ≡ ds
front_point [] more h = refl
front_point (d ∷ ds) more h = rw h.0 (ap (λ ys. d ∷ ys) (front_point ds more h.1))

behind_point : (ds more : List ℕ) → AreDigits ds → digits_behind (ds ++ 46 ∷ more) ≡ 46 ∷ more
behind_point [] more h = refl
behind_point (d ∷ ds) more h = rw h.0 (behind_point ds more h.1)

-- ---- the whole part and the decimals

-- no zero stands before another digit
abbrev IsLed : List ℕ → Type 0
IsLed ds = (0 < length ds) × ((slice_index ds 0 ≡ 48) → length ds ≡ 1)

whole_true : (ds : List ℕ) → IsLed ds → is_whole ds ≡ true
whole_true [] h = absurd (omega (arith, h.0))
whole_true (d ∷ []) h = refl
whole_true (d ∷ e ∷ ds) h = bool (d == 48)
  where
    bool : (t : Bool) → is_whole (d ∷ e ∷ ds) ≡ true
    bool t = grind (arith, nat_tests)

-- ---- what the text reads as

split_neg : (ds : List ℕ) → split_minus (45 ∷ ds) ≡ (true, ds)
split_neg ds = refl

not_minus : (d : ℕ) → is_digit d ≡ true → (d == 45) ≡ false
not_minus d e = grind (arith, nat_tests)

split_pos : (d : ℕ) (ds more : List ℕ) → is_digit d ≡ true → split_minus ((d ∷ ds) ++ more) ≡ (false, (d ∷ ds) ++ more)
split_pos d ds more e = rw (not_minus d e) refl

no_point : (neg : Bool) (w : List ℕ) → AreDigits w → IsLed w → decimal_behind neg w ≡ Some (record { negative = neg; whole = w; fraction = []; lower = false; exponent = [] })
no_point neg w a l = rw (front_all w a, behind_all w a, whole_true w l) refl

some_length : (f : List ℕ) → 0 < length f → (length f == 0) ≡ false
some_length f lt = grind (arith, nat_tests)

with_point : (neg : Bool) (w f : List ℕ) → AreDigits w → IsLed w → AreDigits f → 0 < length f → decimal_behind neg (w ++ 46 ∷ f) ≡ Some (record { negative = neg; whole = w; fraction = f; lower = false; exponent = [] })
with_point neg w f a l b some = rw (front_point w f a, behind_point w f a, whole_true w l, front_all f b, behind_all f b, some_length f some) refl

-- the whole part of padded digits
led_few : (w : List ℕ) → length w ≡ 1 → IsLed w
led_few w e = (omega arith, λ z. e)

front_index : (n : ℕ) (ds : List ℕ) → 0 < n → slice_index (take n ds) 0 ≡ slice_index ds 0
front_index zero ds h = absurd (omega arith)
front_index (suc n) [] h = refl
front_index (suc n) (d ∷ ds) h = refl

decimal_zero : decimal 0 ≡ 48 ∷ []
decimal_zero = decimal_digit 0 (omega arith)

-- the digits before the last so many places
abbrev whole_part : ℕ → ℕ → List ℕ
whole_part places n = take (length (padded (places + 1) n) - places) (padded (places + 1) n)

abbrev last_part : ℕ → ℕ → List ℕ
last_part places n = drop (length (padded (places + 1) n) - places) (padded (places + 1) n)

whole_length : (places n : ℕ) → length (whole_part places n) ≡ length (padded (places + 1) n) - places
whole_length places n = length-take (length (padded (places + 1) n) - places) (padded (places + 1) n) ∙ omega arith

led_part : (places n : ℕ) → n < 2 ^ 64 → IsLed (whole_part places n)
led_part places n lt = bool_cases (nat_le (length (decimal n)) places)
    (λ t. let le : length (decimal n) ≤ places = grind (arith, nat_tests) in led_few (whole_part places n) (omega (arith, whole_length places n, length-padded (places + 1) n)))
    (λ t. let gt : places < length (decimal n) = grind (arith, nat_tests) in many gt)
  where
    padded_is : places < length (decimal n) → padded (places + 1) n ≡ decimal n
    padded_is gt = let z : places + 1 - length (decimal n) ≡ 0 = omega arith in ap (λ k. zeros k ++ decimal n) z

    zero_is : n ≡ 0 → places < length (decimal n) → length (whole_part places n) ≡ 1
    zero_is z gt = let one : length (decimal n) ≡ 1 = ap (λ k. length (decimal k)) z ∙ ap length decimal_zero in omega (arith, whole_length places n, length-padded (places + 1) n)

    by : (t : Bool) → nat_lt 0 n ≡ t → slice_index (decimal n) 0 ≡ 48 → n ≡ 0
    by true t f = let p : 0 < n = grind (arith, nat_tests) in absurd (omega (arith, first_decimal n p lt, f))
    by false t f = grind (arith, nat_tests)

    is_zero : places < length (decimal n) → slice_index (whole_part places n) 0 ≡ 48 → n ≡ 0
    is_zero gt z =
        let f : slice_index (decimal n) 0 ≡ 48 = sym (ap (λ ds. slice_index ds 0) (padded_is gt)) ∙ sym (front_index (length (padded (places + 1) n) - places) (padded (places + 1) n) (omega (arith, length-padded (places + 1) n))) ∙ z in
        by (nat_lt 0 n) refl f

    many : places < length (decimal n) → IsLed (whole_part places n)
    many gt = (omega (arith, whole_length places n, length-padded (places + 1) n), λ z. zero_is (is_zero gt z) gt)

parts_write : (places n : ℕ) → n < 2 ^ 64 → number 0 (whole_part places n ++ last_part places n) ≡ n
parts_write places n lt = ap (number 0) (take-append-drop (length (padded (places + 1) n) - places) (padded (places + 1) n)) ∙ (padded_writes (places + 1) n lt).1

last_length : (places n : ℕ) → length (last_part places n) ≡ places
last_length places n = length-drop (length (padded (places + 1) n) - places) (padded (places + 1) n) ∙ omega (arith, length-padded (places + 1) n)

-- ---- the number

sign_says : (z : ℤ) (d : ℕ) (ds more : List ℕ) → is_digit d ≡ true → (neg : Bool) × (split_minus (sign_of z ++ ((d ∷ ds) ++ more)) ≡ (neg, (d ∷ ds) ++ more)) × (z ≡ signed neg (unsigned_abs z))
sign_says (pos n) d ds more e = (false, split_pos d ds more e, refl)
sign_says (negsuc n) d ds more e = (true, refl, refl)

some_first : (w : List ℕ) → AreDigits w → 0 < length w → (d : ℕ) × (ds : List ℕ) × (w ≡ d ∷ ds) × (is_digit d ≡ true)
some_first [] a h = absurd (omega arith)
some_first (d ∷ ds) a h = (d, ds, refl, a.0)

decimal_parts : (z : ℤ) (w more : List ℕ) (x : Bool → Decimal) → AreDigits w → 0 < length w → ((neg : Bool) → decimal_behind neg (w ++ more) ≡ Some (x neg)) → (neg : Bool) × (decimal_of (sign_of z ++ (w ++ more)) ≡ Some (x neg)) × (z ≡ signed neg (unsigned_abs z))
decimal_parts z w more x a some h =
    let f = some_first w a some in
    let s = sign_says z f.0 f.1 more f.3 in
    let e : split_minus (sign_of z ++ (w ++ more)) ≡ (s.0, w ++ more) = ap (λ (ys : List ℕ). split_minus (sign_of z ++ (ys ++ more))) f.2 ∙ s.1 ∙ ap (λ (ys : List ℕ). (s.0, ys ++ more)) (sym f.2) in
    (s.0, ap (λ (p : Bool × List ℕ). decimal_behind p.0 p.1) e ∙ h s.0, s.2)

abbrev whole_decimal : List ℕ → List ℕ → Bool → Decimal
whole_decimal w f neg = record { negative = neg; whole = w; fraction = f; lower = false; exponent = [] }

behind_parts : (places n : ℕ) (neg : Bool) → n < 2 ^ 64 → decimal_behind neg (pointed places (padded (places + 1) n)) ≡ Some (whole_decimal (whole_part places n) (last_part places n) neg)
behind_parts zero n neg lt =
    let a = take_digits (length (padded 1 n) - 0) (padded 1 n) (padded_writes 1 n lt).0 in
    let all : whole_part 0 n ≡ padded 1 n = ap (λ i. take i (padded 1 n)) (omega arith) ∙ take-length (padded 1 n) in
    let none : last_part 0 n ≡ [] = ap (λ i. drop i (padded 1 n)) (omega arith) ∙ drop-length (padded 1 n) in
    ap (decimal_behind neg) (sym all) ∙ no_point neg (whole_part 0 n) a (led_part 0 n lt) ∙ ap (λ (f : List ℕ). Some (whole_decimal (whole_part 0 n) f neg)) (sym none)
behind_parts (suc p) n neg lt =
    let d = (padded_writes (suc p + 1) n lt).0 in
    with_point neg (whole_part (suc p) n) (last_part (suc p) n) (take_digits (length (padded (suc p + 1) n) - suc p) (padded (suc p + 1) n) d) (led_part (suc p) n lt) (drop_digits (length (padded (suc p + 1) n) - suc p) (padded (suc p + 1) n) d) (omega (arith, last_length (suc p) n))

-- the point and what is behind it
abbrev more_part : ℕ → ℕ → List ℕ
more_part zero n = []
more_part (suc p) n = 46 ∷ last_part (suc p) n

pointed_is : (places n : ℕ) → pointed places (padded (places + 1) n) ≡ whole_part places n ++ more_part places n
pointed_is zero n = sym (append-nil (whole_part 0 n) ∙ ap (λ i. take i (padded 1 n)) (omega arith) ∙ take-length (padded 1 n))
pointed_is (suc p) n = refl

small_digits : (z : ℤ) → IsI64 z → unsigned_abs z < 2 ^ 64
small_digits (pos n) h = omega (arith, ints, h.1)
small_digits (negsuc n) h = omega (arith, ints, h.0)

number_reads : (n : Num) → IsI64 n.mantissa → NumberReads (Some n) (sign_of n.mantissa ++ pointed n.scale (padded (n.scale + 1) (unsigned_abs n.mantissa)))
number_reads n fits =
    let k = unsigned_abs n.mantissa in
    let s = n.scale in
    let lt : k < 2 ^ 64 = small_digits n.mantissa fits in
    let w = whole_part s k in
    let a = take_digits (length (padded (s + 1) k) - s) (padded (s + 1) k) (padded_writes (s + 1) k lt).0 in
    let p = decimal_parts n.mantissa w (more_part s k) (whole_decimal w (last_part s k)) a (led_part s k lt).0 (λ neg. ap (decimal_behind neg) (sym (pointed_is s k)) ∙ behind_parts s k neg lt) in
    let e : s + 0 ≡ 0 + s = omega arith in
    let up : length (last_part s k) + 0 ≡ 0 + s = ap (λ i. i + 0) (last_length s k) ∙ e in
    (whole_decimal w (last_part s k) p.0, ap (λ ys. decimal_of (sign_of n.mantissa ++ ys)) (pointed_is s k) ∙ p.1, (k, p.2, ap (tens k) up ∙ ap (λ x. tens x (0 + s)) (sym (parts_write s k lt))))

-- the text of a number reads as that number
pub number_text_reads : (n : Num) → IsI64 n.mantissa → NumberReads (Some n) (number_text n)
unfolding number_text
number_text_reads n fits = number_reads n fits

-- and it is the number that is computed
pub number_text_of : (n : Num) → IsLeast n.mantissa n.scale → IsI64 n.mantissa → number_of (number_text n) ≡ Some n
number_text_of n least fits = number_read_some (number_text n) n least fits (number_text_reads n fits)

-- ---- in the grammar

pub same_digits : (ds : List ℕ) → AreDigits ds → g.AreDigits ds
same_digits [] h = tt
same_digits (d ∷ ds) h = (h.0, same_digits ds h.1)

digit_bounds : (d : ℕ) → is_digit d ≡ true → (48 ≤ d) × (d ≤ 57)
digit_bounds d e = (grind (arith, nat_tests), grind (arith, nat_tests))

no_more : (d e : ℕ) (ds : List ℕ) → length (d ∷ e ∷ ds) ≡ 1 → ⊥
no_more d e ds h = omega arith

whole_led : (w : List ℕ) → AreDigits w → IsLed w → g.IsWhole w
whole_led [] a l = absurd (omega (arith, l.0))
whole_led (d ∷ []) a l = bool_cases (d == 48) (λ t. inl (eqb-true d 48 t, refl)) (λ t. let b = digit_bounds d a.0 in inr (grind (arith, nat_tests), b.1, tt))
whole_led (d ∷ e ∷ ds) a l = bool_cases (d == 48) (λ t. absurd (no_more d e ds (l.1 (eqb-true d 48 t)))) (λ t. let b = digit_bounds d a.0 in inr (grind (arith, nat_tests), b.1, same_digits (e ∷ ds) a.1))

fraction_is : (places n : ℕ) → n < 2 ^ 64 → g.IsFraction (more_part places n)
fraction_is zero n lt = tt
fraction_is (suc p) n lt = (refl, (omega (arith, last_length (suc p) n), same_digits (last_part (suc p) n) (drop_digits (length (padded (suc p + 1) n) - suc p) (padded (suc p + 1) n) (padded_writes (suc p + 1) n lt).0)))

sign_is : (z : ℤ) → g.IsMinus (sign_of z)
sign_is (pos n) = inl refl
sign_is (negsuc n) = inr refl

-- its text is a number of the grammar
pub number_text_in : (n : Num) → IsI64 n.mantissa → (x : g.Number) × g.IsNumber x × (number_text n ≡ g.number_bytes x)
unfolding number_text
number_text_in n fits =
    let k = unsigned_abs n.mantissa in
    let s = n.scale in
    let lt : k < 2 ^ 64 = small_digits n.mantissa fits in
    let a = take_digits (length (padded (s + 1) k) - s) (padded (s + 1) k) (padded_writes (s + 1) k lt).0 in (
      record { minus = sign_of n.mantissa; whole = whole_part s k; fraction = more_part s k; exponent = [] },
      record { minus = sign_is n.mantissa; whole = whole_led (whole_part s k) a (led_part s k lt); fraction = fraction_is s k lt; exponent = tt },
      ap (λ ys. sign_of n.mantissa ++ ys) (pointed_is s k ∙ ap (λ ys. whole_part s k ++ ys) (sym (append-nil (more_part s k)))),
    )
