-- No two paths have one name.
use Rattle.std.proofs.Common.{◌≡◌, inl, inr, ℕ, suc, ◌+◌, ◌/◌, ◌%◌, ◌<◌, nat_lt, true, false, List, [], ◌∷◌, ◌++◌, drop, get_or, refl, sym, ap, ◌∙◌, arith}
use Rattle.std.proofs.Math.Path.{ap₂}
use Rattle.std.proofs.lemmas.Bool.{cond-true, cond-false, cases_Bool, false≢true}
use Rattle.std.proofs.lemmas.Bool.Decides.{nat_tests}
use Rattle.std.specs.Char.{digit_char}
use Rattle.slot_files.specs.Names.{is_plain, byte_named, path_named, NamesDiffer}
use Rattle.slot_files.specs.declared.name.PositionOf.TheVariants.{Output, Input}

one_digit : (a b : ℕ) → a < 16 → b < 16 → digit_char a ≡ digit_char b → a ≡ b
one_digit a b few_a few_b same = elim (cases_Bool (nat_lt a 10)) [
  | inl low_a ↦ elim (cases_Bool (nat_lt b 10)) [
    | inl low_b ↦ let e : 48 + a ≡ 48 + b = sym (cond-true _ _ _ low_a) ∙ same ∙ cond-true _ _ _ low_b in omega (arith, e)
    | inr high_b ↦
        let e : 48 + a ≡ 87 + b = sym (cond-true _ _ _ low_a) ∙ same ∙ cond-false _ _ _ high_b in
        let low : a < 10 = grind (arith, nat_tests, low_a) in
        omega (arith, e, low)
  ]
  | inr high_a ↦ elim (cases_Bool (nat_lt b 10)) [
    | inl low_b ↦
        let e : 87 + a ≡ 48 + b = sym (cond-false _ _ _ high_a) ∙ same ∙ cond-true _ _ _ low_b in
        let low : b < 10 = grind (arith, nat_tests, low_b) in
        omega (arith, e, low)
    | inr high_b ↦ let e : 87 + a ≡ 87 + b = sym (cond-false _ _ _ high_a) ∙ same ∙ cond-false _ _ _ high_b in omega (arith, e)
  ]
]

plain_named : (byte : ℕ) (more : List ℕ) → is_plain byte ≡ true → byte_named byte ++ more ≡ byte ∷ more
plain_named byte more is = ap (λ (l : List ℕ). l ++ more) (cond-true _ _ _ is)

other_named : (byte : ℕ) (more : List ℕ) → is_plain byte ≡ false → byte_named byte ++ more ≡ 95 ∷ digit_char (byte / 16) ∷ digit_char (byte % 16) ∷ more
other_named byte more is = ap (λ (l : List ℕ). l ++ more) (cond-false _ _ _ is)

not_plain : (byte : ℕ) → is_plain byte ≡ true → byte ≡ 95 → ⊥
not_plain byte is same = let none : is_plain byte ≡ false = ap is_plain same in false≢true (sym none ∙ is)

one_byte : (a b : ℕ) (s t : List ℕ) → a < 256 → b < 256 → byte_named a ++ s ≡ byte_named b ++ t → (a ≡ b) × (s ≡ t)
one_byte a b s t few_a few_b same = elim (cases_Bool (is_plain a)) [
  | inl is_a ↦ elim (cases_Bool (is_plain b)) [
    | inl is_b ↦ let e : a ∷ s ≡ b ∷ t = sym (plain_named a s is_a) ∙ same ∙ plain_named b t is_b in (cc, cc)
    | inr other_b ↦
        let e : a ∷ s ≡ 95 ∷ digit_char (b / 16) ∷ digit_char (b % 16) ∷ t = sym (plain_named a s is_a) ∙ same ∙ other_named b t other_b in
        let is : a ≡ 95 = cc in
        absurd (not_plain a is_a is)
  ]
  | inr other_a ↦ elim (cases_Bool (is_plain b)) [
    | inl is_b ↦
        let e : 95 ∷ digit_char (a / 16) ∷ digit_char (a % 16) ∷ s ≡ b ∷ t = sym (other_named a s other_a) ∙ same ∙ plain_named b t is_b in
        let is : b ≡ 95 = cc in
        absurd (not_plain b is_b is)
    | inr other_b ↦
        let e : 95 ∷ digit_char (a / 16) ∷ digit_char (a % 16) ∷ s ≡ 95 ∷ digit_char (b / 16) ∷ digit_char (b % 16) ∷ t = sym (other_named a s other_a) ∙ same ∙ other_named b t other_b in
        let high : digit_char (a / 16) ≡ digit_char (b / 16) = cc in
        let low : digit_char (a % 16) ≡ digit_char (b % 16) = cc in
        let sixteens : a / 16 ≡ b / 16 = one_digit (a / 16) (b / 16) (omega (arith, few_a)) (omega (arith, few_b)) high in
        let ones : a % 16 ≡ b % 16 = one_digit (a % 16) (b % 16) (omega arith) (omega arith) low in
        (omega (arith, sixteens, ones), cc)
  ]
]

no_byte : (b : ℕ) (t : List ℕ) → [] ≡ byte_named b ++ t → ⊥
no_byte b t none = elim (cases_Bool (is_plain b)) [
  | inl is ↦ let e : [] ≡ b ∷ t = none ∙ plain_named b t is in cc
  | inr other ↦ let e : [] ≡ 95 ∷ digit_char (b / 16) ∷ digit_char (b % 16) ∷ t = none ∙ other_named b t other in cc
]

one_path : (one other : List ℕ) → ((i : ℕ) → get_or one i 0 < 256) → ((i : ℕ) → get_or other i 0 < 256) → path_named one ≡ path_named other → one ≡ other
one_path [] [] fit fits same = refl
one_path [] (b ∷ other) fit fits same = absurd (no_byte b (path_named other) same)
one_path (a ∷ one) [] fit fits same = absurd (no_byte a (path_named one) (sym same))
one_path (a ∷ one) (b ∷ other) fit fits same =
    let both = one_byte a b (path_named one) (path_named other) (fit 0) (fits 0) same in
    ap₂ (λ (x : ℕ) (l : List ℕ). x ∷ l) both.0 (one_path one other (λ i. fit (suc i)) (λ i. fits (suc i)) both.1)

pub names_differ : NamesDiffer
names_differ Output one other fit fits same = one_path one other fit fits (ap (drop 4) same)
names_differ Input one other fit fits same = one_path one other fit fits (ap (drop 3) same)
