-- Digits alone are a whole number of JSON, too.
use Rattle.std.proofs.Common.{◌≡◌, ℕ, ◌+◌, ◌*◌, ◌^◌, ◌-◌, ◌<◌, ◌≤◌, List, [], ◌∷◌, ◌++◌, length, drop, get_or, true, false, Some, refl, sym, ap, subst, ◌∙◌, arith, append-nil, lt-ltb, ne_eqb}
use Rattle.std.specs.Char.{digit_value, is_ascii_digit}
use Rattle.std.specs.Str.Parse.{AllDigits, digits_value, digits_value_after}
use Rattle.std.proofs.lemmas.List.{drop_all, drop_more}
use Rattle.std.proofs.lemmas.Bool.Decides.{nat_tests}
use Rattle.fast_float.specs.Text.{IsWellFormed, Parts, digits_of, scan}
use Rattle.fast_float.proofs.Writing.{scan-text_of}
use Rattle.serde_json.specs.Data.{unsigned}
use Rattle.serde_json.specs.Read.{is_integer, number_from, number_of}

no_minus : (s : List ℕ) → AllDigits 10 s → 0 < length s → get_or s 0 0 ≡ 45 → ⊥
no_minus [] all some is = omega arith
no_minus (c ∷ s) all some is = let low : digit_value c < 10 = all.0 in let same : c ≡ 45 = is in grind arith

abbrev digits : List ℕ → Parts
digits s = record { whole = s; point = false; fraction = []; exponent_negative = false; exponent = []; len = length (s ++ []) }

digits_read : (s : List ℕ) → 0 < length s → AllDigits 10 s → digits_value 10 s < 2 ^ 64 → number_of s ≡ Some (unsigned (digits_value 10 s))
unfolding number_of
digits_read s some all fits =
    let formed : IsWellFormed (digits s) = record { whole_digits = all; fraction_digits = tt; exponent_digits = tt; no_point = λ _. refl; no_exponent = λ _. refl; len_is = refl } in
    let read : scan s ≡ digits s = ap scan (sym (append-nil s)) ∙ scan-text_of (digits s) formed in
    let whole : is_integer (digits s) ≡ true = rw (lt-ltb _ _ some) in
    let value : digits_of (digits s) ≡ digits_value 10 s = rw append-nil in
    rw (ne_eqb (get_or s 0 0) 45 (no_minus s all some)) (ap (number_from false) read ∙ rw (whole, value) (rw (lt-ltb _ _ fits)))

-- with what is left, the digits so far are all
abbrev pub IsReading : List ℕ → ℕ → ℕ → Type 0
IsReading s i n = (digits_value 10 s ≡ digits_value_after 10 n (drop i s)) × (AllDigits 10 (drop i s) → AllDigits 10 s)

pub one_digit : (s : List ℕ) (i n new : ℕ) → i < length s → is_ascii_digit (get_or s i 0) ≡ true → new ≡ n * 10 + (get_or s i 0 - 48) → IsReading s i n → IsReading s (i + 1) new
one_digit s i n new below is sum so_far =
    let front : drop i s ≡ get_or s i 0 ∷ drop (i + 1) s = drop_more s i 0 below in
    let low : digit_value (get_or s i 0) ≡ get_or s i 0 - 48 = grind (arith, nat_tests) in
    let less : digit_value (get_or s i 0) < 10 = grind (arith, nat_tests) in (
      so_far.0 ∙ ap (digits_value_after 10 n) front ∙ ap (λ k. digits_value_after 10 k (drop (i + 1) s)) (ap (λ d. n * 10 + d) low ∙ sym sum),
      λ all. so_far.1 (subst (AllDigits 10) (sym front) (less, all)),
    )

pub all_digits : (s : List ℕ) (i n : ℕ) → 0 < length s → length s ≤ i → n < 2 ^ 64 → IsReading s i n → number_of s ≡ Some (unsigned n)
all_digits s i n some end fits so_far =
    let none : drop i s ≡ [] = drop_all i s end in
    let value : digits_value 10 s ≡ n = so_far.0 ∙ ap (digits_value_after 10 n) none in
    digits_read s some (so_far.1 (subst (AllDigits 10) (sym none) tt)) (rw value fits) ∙ ap (λ k. Some (unsigned k)) value
