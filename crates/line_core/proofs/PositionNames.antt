-- The names of position files tell any two lists apart, also such as aren't bytes.
use Rattle.std.proofs.Common.{◌≡◌, inl, inr, ℕ, ◌+◌, ◌/◌, ◌%◌, ◌<◌, nat_lt, true, false, List, [], ◌∷◌, ◌++◌, drop, refl, sym, ap, ap₂, ◌∙◌, arith}
use Rattle.std.proofs.lemmas.Bool.{cond-true, cond-false, cases_Bool, false≢true}
use Rattle.std.proofs.lemmas.Bool.Decides.{nat_tests}
use Rattle.std.specs.Char.{digit_char}
use Rattle.slot_files.specs.Names.{byte_named, is_plain, path_named, position_name}
use Rattle.slot_files.specs.declared.name.PositionOf.TheVariants.{Input}

one_digit : (a b : ℕ) → digit_char a ≡ digit_char b → a ≡ b
one_digit a b same = elim (cases_Bool (nat_lt a 10)) [
  | inl low_a ↦ elim (cases_Bool (nat_lt b 10)) [
    | inl low_b ↦ let e : 48 + a ≡ 48 + b = sym (cond-true _ _ _ low_a) ∙ same ∙ cond-true _ _ _ low_b in omega (arith, e)
    | inr high_b ↦
        let e : 48 + a ≡ 87 + b = sym (cond-true _ _ _ low_a) ∙ same ∙ cond-false _ _ _ high_b in
        let low : a < 10 = grind (arith, nat_tests, low_a) in
        omega (arith, e, low)
  ]
  | inr high_a ↦ elim (cases_Bool (nat_lt b 10)) [
    | inl low_b ↦
        let e : 87 + a ≡ 48 + b = sym (cond-false _ _ _ high_a) ∙ same ∙ cond-true _ _ _ low_b in
        let low : b < 10 = grind (arith, nat_tests, low_b) in
        omega (arith, e, low)
    | inr high_b ↦ let e : 87 + a ≡ 87 + b = sym (cond-false _ _ _ high_a) ∙ same ∙ cond-false _ _ _ high_b in omega (arith, e)
  ]
]

plain_named : (byte : ℕ) (more : List ℕ) → is_plain byte ≡ true → byte_named byte ++ more ≡ byte ∷ more
plain_named byte more is = ap (λ (l : List ℕ). l ++ more) (cond-true _ _ _ is)

other_named : (byte : ℕ) (more : List ℕ) → is_plain byte ≡ false → byte_named byte ++ more ≡ 95 ∷ digit_char (byte / 16) ∷ digit_char (byte % 16) ∷ more
other_named byte more is = ap (λ (l : List ℕ). l ++ more) (cond-false _ _ _ is)

not_plain : (byte : ℕ) → is_plain byte ≡ true → byte ≡ 95 → ⊥
not_plain byte is same = let none : is_plain byte ≡ false = ap is_plain same in false≢true (sym none ∙ is)

one_byte : (a b : ℕ) (s t : List ℕ) → byte_named a ++ s ≡ byte_named b ++ t → (a ≡ b) × (s ≡ t)
one_byte a b s t same = elim (cases_Bool (is_plain a)) [
  | inl is_a ↦ elim (cases_Bool (is_plain b)) [
    | inl is_b ↦ let e : a ∷ s ≡ b ∷ t = sym (plain_named a s is_a) ∙ same ∙ plain_named b t is_b in (cc, cc)
    | inr other_b ↦
        let e : a ∷ s ≡ 95 ∷ digit_char (b / 16) ∷ digit_char (b % 16) ∷ t = sym (plain_named a s is_a) ∙ same ∙ other_named b t other_b in
        let is : a ≡ 95 = cc in
        absurd (not_plain a is_a is)
  ]
  | inr other_a ↦ elim (cases_Bool (is_plain b)) [
    | inl is_b ↦
        let e : 95 ∷ digit_char (a / 16) ∷ digit_char (a % 16) ∷ s ≡ b ∷ t = sym (other_named a s other_a) ∙ same ∙ plain_named b t is_b in
        let is : b ≡ 95 = cc in
        absurd (not_plain b is_b is)
    | inr other_b ↦
        let e : 95 ∷ digit_char (a / 16) ∷ digit_char (a % 16) ∷ s ≡ 95 ∷ digit_char (b / 16) ∷ digit_char (b % 16) ∷ t = sym (other_named a s other_a) ∙ same ∙ other_named b t other_b in
        let high : digit_char (a / 16) ≡ digit_char (b / 16) = cc in
        let low : digit_char (a % 16) ≡ digit_char (b % 16) = cc in
        let sixteens : a / 16 ≡ b / 16 = one_digit (a / 16) (b / 16) high in
        let ones : a % 16 ≡ b % 16 = one_digit (a % 16) (b % 16) low in
        (omega (arith, sixteens, ones), cc)
  ]
]

no_byte : (b : ℕ) (t : List ℕ) → [] ≡ byte_named b ++ t → ⊥
no_byte b t none = elim (cases_Bool (is_plain b)) [
  | inl is ↦ let e : [] ≡ b ∷ t = none ∙ plain_named b t is in cc
  | inr other ↦ let e : [] ≡ 95 ∷ digit_char (b / 16) ∷ digit_char (b % 16) ∷ t = none ∙ other_named b t other in cc
]

one_path : (one other : List ℕ) → path_named one ≡ path_named other → one ≡ other
one_path [] [] same = refl
one_path [] (b ∷ other) same = absurd (no_byte b (path_named other) same)
one_path (a ∷ one) [] same = absurd (no_byte a (path_named one) (sym same))
one_path (a ∷ one) (b ∷ other) same =
    let both = one_byte a b (path_named one) (path_named other) same in
    ap₂ (λ (x : ℕ) (l : List ℕ). x ∷ l) both.0 (one_path one other both.1)

pub position_names_differ : (one other : List ℕ) → position_name Input one ≡ position_name Input other → one ≡ other
position_names_differ one other same = one_path one other (ap (drop 3) same)
