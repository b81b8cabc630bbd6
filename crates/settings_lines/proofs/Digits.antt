-- Numbers as `parse` reads them, and how far the digits in front of a text go.
use Rattle.std.proofs.Common.{◌≡◌, ℕ, ◌^◌, ◌<◌, ◌≤◌, List, [], ◌∷◌, length, refl, sym, ap, ◌∙◌, arith, rules, Some, None, Bool, true, false, if◌then◌else◌, ap₂}
use Rattle.std.proofs.lemmas.Bool.Decides.{nat_tests}
use Rattle.std.specs.Prelude.{Err, ◌==◌, ◌&&◌, not, nat_le, option_and_then}
use Rattle.std.specs.List.{list_all}
use Rattle.std.specs.Char.{is_ascii_digit}
use Rattle.std.specs.Str.Parse.{ParsesUnsigned, digits_value}
use Rattle.std.proofs.lemmas.Str.Parse.{IsNumeralModel, numerals_by_value, parse_digits}
use Rattle.settings_lines.specs.Numbers.{within, number_in}

and_false : (a : Bool) → (a && false) ≡ false
and_false true = refl
and_false false = refl

own : IsNumeralModel (λ ds. list_all is_ascii_digit ds ≡ true) (digits_value 10)
own = numerals_by_value _ (search rules)

-- a text of digits that `parse` doesn't read has none, or is beyond all ranges
beyond : (s : List ℕ) (low high : ℕ) → 2 ^ 64 ≤ digits_value 10 s → high < 2 ^ 64 → None ≡ within low high (digits_value 10 s)
beyond s low high large small =
    let past : nat_le (digits_value 10 s) high ≡ false = grind (arith, nat_tests) in
    ap (λ t. if t then Some (digits_value 10 s) else None) (sym (ap (λ q. nat_le low (digits_value 10 s) && q) past ∙ and_false (nat_le low (digits_value 10 s))))

pub number_none : (E : Type 0) (s : List ℕ) (e : E) (low high : ℕ) → ParsesUnsigned {E = E} 64 10 s (Err e) → list_all is_ascii_digit s ≡ true → high < 2 ^ 64 → None ≡ number_in low high s
number_none E [] e low high is digits small = refl
number_none E (c ∷ cs) e low high is digits small =
    let refused = parse_digits own 64 (c ∷ cs) (Err e) is digits in
    let large : digits_value 10 (c ∷ cs) < 2 ^ 64 → ⊥ = λ below. refused (omega arith, below) in
    let some : (length (c ∷ cs) == 0) ≡ false = grind (arith, nat_tests) in
    beyond (c ∷ cs) low high (omega (arith, large)) small
    ∙ ap (option_and_then (within low high)) (ap (λ t. if t then Some (digits_value 10 (c ∷ cs)) else None) (sym (ap₂ (λ p q. not p && q) some digits)))
