-- Each text of the grammar is read, with its value.
use Rattle.std.proofs.Common.{◌≡◌, ℕ, suc, ◌-◌, ◌≤◌, List, [], ◌∷◌, ◌++◌, length, take, Option, Some, None, Result, Ok, refl, sym, ap, ◌∙◌, arith, true, false, ◌==◌, ◌||◌, nat_lt, inl, inr, append_assoc}
use Rattle.std.proofs.lemmas.Bool.Decides.{nat_tests}
use Rattle.event_tree.specs.NumberTexts.{is_digit}
use Rattle.event_tree.specs.declared.value.Value.{Value}
use Rattle.event_json.specs.Numbers.{number_value}
use Rattle.event_json.specs.Strings.{Piece, plain, short, unit, is_plain, short_of, hex_of, hex_or_0, digit_on, lone, joined, held, unit_of, ArePieces, pieces_bytes, pieces_behind, pieces_text}
use Rattle.event_json.specs.Grammar.{Number, is_space, AreSpace, AreDigits, AreSomeDigits, IsWhole, IsMinus, IsFraction, IsPower, IsExponent, IsNumber, number_bytes}
use Rattle.event_json.specs.Reading as r
use Rattle.event_json.specs.Reading.{◌>>=◌, Fault, At, Deep, Reads, Inside, plainly, escaped, digits_in, inside_at}
use Rattle.event_json.proofs.Tests.{bool_cases}
use Rattle.event_json.proofs.NodeReads.{number_front}

-- no blank comes next
abbrev pub NoSpace : List ℕ → Type 0
NoSpace [] = Unit {0}
NoSpace (b ∷ bs) = is_space b ≡ false

-- no digit comes next
abbrev pub NoDigit : List ℕ → Type 0
NoDigit [] = Unit {0}
NoDigit (b ∷ bs) = is_digit b ≡ false

-- what may stand behind a number: nothing, or no byte that goes on with it
abbrev pub EndsNumber : List ℕ → Type 0
EndsNumber [] = Unit {0}
EndsNumber (b ∷ bs) = (is_digit b ≡ false) × ((b == 46) ≡ false) × ((b == 101 || b == 69) ≡ false)

pub digit_byte : (b : ℕ) → 48 ≤ b → b ≤ 57 → is_digit b ≡ true
digit_byte b low high = grind (arith, nat_tests)

pub digit_bounds : (b : ℕ) → is_digit b ≡ true → (48 ≤ b) × (b ≤ 57)
digit_bounds b e = (grind (arith, nat_tests), grind (arith, nat_tests))

no_sign : (b : ℕ) → is_digit b ≡ true → (b == 45 || b == 43) ≡ false
no_sign b e = grind (arith, nat_tests)

pub not_nought : (b : ℕ) → 49 ≤ b → b ≤ 57 → ((b == 48) ≡ false) × (is_digit b ≡ true) × (is_space b ≡ false) × ((b == 91) ≡ false) × ((b == 45) ≡ false)
not_nought b low high = (grind (arith, nat_tests), grind (arith, nat_tests), grind (arith, nat_tests), grind (arith, nat_tests), grind (arith, nat_tests))

ends_cons : (b : ℕ) (bs : List ℕ) → is_space b ≡ true → EndsNumber (b ∷ bs)
ends_cons b bs e = (grind (arith, nat_tests), grind (arith, nat_tests), grind (arith, nat_tests))

pub space_ends : (s bs : List ℕ) → AreSpace s → EndsNumber bs → EndsNumber (s ++ bs)
space_ends [] bs h f = f
space_ends (b ∷ s) bs h f = ends_cons b (s ++ bs) h.0

pub skip_none : (bs : List ℕ) → NoSpace bs → r.skip bs ≡ bs
skip_none [] h = refl
skip_none (b ∷ bs) h = rw h refl

pub skip_space : (s bs : List ℕ) → AreSpace s → r.skip (s ++ bs) ≡ r.skip bs
skip_space [] bs h = refl
skip_space (b ∷ s) bs h = rw h.0 (skip_space s bs h.1)

-- ---- numbers

no_digits : (bs : List ℕ) → NoDigit bs → r.skip_digits bs ≡ bs
no_digits [] h = refl
no_digits (b ∷ bs) h = rw h refl

past_digits : (ds bs : List ℕ) → AreDigits ds → NoDigit bs → r.skip_digits (ds ++ bs) ≡ bs
past_digits [] bs h n = no_digits bs n
past_digits (b ∷ ds) bs h n = rw h.0 (past_digits ds bs h.1 n)

digits_read : (ds bs : List ℕ) → AreSomeDigits ds → NoDigit bs → r.digits (ds ++ bs) ≡ Ok bs
digits_read [] bs h n = absurd (omega (arith, h.0))
digits_read (b ∷ ds) bs h n = rw h.1.0 (ap (λ (x : List ℕ). Ok x) (past_digits ds bs h.1.1 n))

ends_digit : (bs : List ℕ) → EndsNumber bs → NoDigit bs
ends_digit [] h = tt
ends_digit (b ∷ bs) h = h.0

power_read : (p bs : List ℕ) → IsPower p → NoDigit bs → r.digits (r.after_sign (p ++ bs)) ≡ Ok bs
power_read [] bs h n = absurd h
power_read (b ∷ p) bs (inl (inl e, h)) n = rw e (digits_read p bs h n)
power_read (b ∷ p) bs (inl (inr e, h)) n = rw e (digits_read p bs h n)
power_read (b ∷ p) bs (inr h) n = rw (no_sign b h.1.0) (digits_read (b ∷ p) bs h n)

exponent_read : (e bs : List ℕ) → IsExponent e → EndsNumber bs → r.exponent (e ++ bs) ≡ Ok bs
exponent_read [] [] h n = refl
exponent_read [] (b ∷ bs) h n = rw n.2 refl
exponent_read (b ∷ p) bs (inl e, h) n = rw e (power_read p bs h (ends_digit bs n))
exponent_read (b ∷ p) bs (inr e, h) n = rw e (power_read p bs h (ends_digit bs n))

exponent_front : (e bs : List ℕ) → IsExponent e → EndsNumber bs → NoDigit (e ++ bs)
exponent_front [] bs h n = ends_digit bs n
exponent_front (b ∷ p) bs (inl e, h) n = rw e refl
exponent_front (b ∷ p) bs (inr e, h) n = rw e refl

fraction_read : (f e bs : List ℕ) → IsFraction f → IsExponent e → EndsNumber bs → r.fraction (f ++ (e ++ bs)) ≡ Ok (e ++ bs)
fraction_read [] [] [] h k n = refl
fraction_read [] [] (b ∷ bs) h k n = rw n.1 refl
fraction_read [] (b ∷ p) bs h (inl e, k) n = rw e refl
fraction_read [] (b ∷ p) bs h (inr e, k) n = rw e refl
fraction_read (b ∷ f) e bs h k n = rw h.0 (digits_read f (e ++ bs) h.1 (exponent_front e bs k n))

fraction_front : (f e bs : List ℕ) → IsFraction f → IsExponent e → EndsNumber bs → NoDigit (f ++ (e ++ bs))
fraction_front [] e bs h k n = exponent_front e bs k n
fraction_front (b ∷ f) e bs h k n = rw h.0 refl

whole_read : (w rest : List ℕ) → IsWhole w → NoDigit rest → r.whole (w ++ rest) ≡ Ok rest
whole_read [] rest h n = absurd h
whole_read (b ∷ w) rest (inl h) n = rw (h.0, h.1) refl
whole_read (b ∷ w) rest (inr h) n = let t = not_nought b h.0 h.1 in rw (t.0, t.1) (ap (λ (x : List ℕ). Ok x) (past_digits w rest h.2 n))

no_minus : (w rest : List ℕ) → IsWhole w → r.after_minus (w ++ rest) ≡ w ++ rest
no_minus [] rest h = absurd h
no_minus (b ∷ w) rest (inl h) = rw h.0 refl
no_minus (b ∷ w) rest (inr h) = let t = not_nought b h.0 h.1 in rw t.4 refl

minus_read : (s w rest : List ℕ) → IsMinus s → IsWhole w → r.after_minus (s ++ (w ++ rest)) ≡ w ++ rest
minus_read s w rest (inl e) h = rw e (no_minus w rest h)
minus_read s w rest (inr e) h = rw e refl

number_parts : (s w f e bs : List ℕ) → IsMinus s → IsWhole w → IsFraction f → IsExponent e → EndsNumber bs → r.after_number (s ++ (w ++ (f ++ (e ++ bs)))) ≡ Ok bs
unfolding r.after_number
number_parts s w f e bs hs hw hf he n = rw (minus_read s w (f ++ (e ++ bs)) hs hw, whole_read w (f ++ (e ++ bs)) hw (fraction_front f e bs hf he n), fraction_read f e bs hf he n) (exponent_read e bs he n)

regroup : (s w f e bs : List ℕ) → (s ++ (w ++ (f ++ e))) ++ bs ≡ s ++ (w ++ (f ++ (e ++ bs)))
regroup s w f e bs = simp append_assoc

pub number_read : (x : Number) (bs : List ℕ) → IsNumber x → EndsNumber bs → r.number_at (number_bytes x ++ bs) ≡ Ok (number_value (number_bytes x), bs)
unfolding r.number_at
number_read x bs h n =
    let e : r.after_number (number_bytes x ++ bs) ≡ Ok bs = ap r.after_number (regroup x.minus x.whole x.fraction x.exponent bs) ∙ number_parts x.minus x.whole x.fraction x.exponent bs h.minus h.whole h.fraction h.exponent n in
    ap (λ (read : Result (List ℕ) Fault). read >>= λ rest. Ok (number_value (take (length (number_bytes x ++ bs) - length rest) (number_bytes x ++ bs)), rest)) e
    ∙ ap (λ (s : List ℕ). Ok (number_value s, bs)) (number_front (number_bytes x ++ bs) (number_bytes x) bs refl)

-- ---- literals

word_read : (word bs : List ℕ) → r.after_word word (word ++ bs) ≡ Ok bs
word_read [] bs = refl
word_read (w ∷ ws) bs = let e : (w == w) ≡ true = grind (arith, nat_tests) in rw e (word_read ws bs)

pub word_value : (word bs : List ℕ) (d : Value) → r.word_at word d (word ++ bs) ≡ Ok (d, bs)
word_value word bs d = ap (λ (read : Result (List ℕ) Fault). read >>= λ rest. Ok (d, rest)) (word_read word bs)

-- ---- strings

plain_tests : (b : ℕ) → is_plain b ≡ true → ((b == 34) ≡ false) × ((b == 92) ≡ false) × (nat_lt b 32 ≡ false)
plain_tests b e = (grind (arith, nat_tests), grind (arith, nat_tests), grind (arith, nat_tests))

plain_on : (b : ℕ) (bs : List ℕ) (w : Option ℕ) (found : List ℕ) → is_plain b ≡ true → inside_at (b ∷ bs) plainly w found ≡ inside_at bs plainly None (found ++ (lone w ++ b ∷ []))
unfolding inside_at
plain_on b bs w found e = let t = plain_tests b e in rw (t.0, t.1, t.2) refl

no_u : (c n : ℕ) → short_of c ≡ Some n → (c == 117) ≡ false
no_u c n e = bool_cases (c == 117) (λ t. absurd (differ c n t e)) (λ t. t)
  where
    differ : (c n : ℕ) → (c == 117) ≡ true → short_of c ≡ Some n → ⊥
    differ c n t e = grind (arith, nat_tests)

short_on : (c n : ℕ) (bs : List ℕ) (w : Option ℕ) (found : List ℕ) → short_of c ≡ Some n → inside_at (92 ∷ c ∷ bs) plainly w found ≡ inside_at bs plainly None (found ++ (lone w ++ n ∷ []))
unfolding inside_at
short_on c n bs w found e = rw (no_u c n e, e) refl

slash_u : (bs : List ℕ) (w : Option ℕ) (found : List ℕ) → inside_at (92 ∷ 117 ∷ bs) plainly w found ≡ inside_at bs (digits_in 3 0) w found
unfolding inside_at
slash_u bs w found = refl

hex_next : (b n u d : ℕ) (bs : List ℕ) (w : Option ℕ) (found : List ℕ) → hex_of b ≡ Some d → inside_at (b ∷ bs) (digits_in (suc n) u) w found ≡ inside_at bs (digits_in n (digit_on u b)) w found
unfolding inside_at
hex_next b n u d bs w found e = rw e refl

hex_last : (b u d : ℕ) (bs : List ℕ) (w : Option ℕ) (found : List ℕ) → hex_of b ≡ Some d → inside_at (b ∷ bs) (digits_in 0 u) w found ≡ inside_at bs plainly (held (digit_on u b)) (found ++ joined w (digit_on u b))
unfolding inside_at
hex_last b u d bs w found e = rw e refl

quote_on : (bs : List ℕ) (w : Option ℕ) (found : List ℕ) → inside_at (34 ∷ bs) plainly w found ≡ Ok (found ++ lone w, bs)
unfolding inside_at
quote_on bs w found = refl

text_is : (bs : List ℕ) (found s t : List ℕ) → s ≡ t → ◌≡◌ {A = Result (List ℕ × List ℕ) Fault} (Ok (s, bs)) (Ok (t, bs))
text_is bs found s t e = ap (λ (ys : List ℕ). Ok (ys, bs)) e

pieces_read : (ps : List Piece) (bs : List ℕ) (w : Option ℕ) (found : List ℕ) → ArePieces ps → inside_at (pieces_bytes ps ++ 34 ∷ bs) plainly w found ≡ Ok (found ++ pieces_behind w ps, bs)
pieces_read [] bs w found h = quote_on bs w found
pieces_read (plain b ∷ ps) bs w found h = plain_on b (pieces_bytes ps ++ 34 ∷ bs) w found h.0 ∙ pieces_read ps bs None (found ++ (lone w ++ b ∷ [])) h.1 ∙ text_is bs found _ _ (append_assoc found (lone w ++ b ∷ []) (pieces_behind None ps) ∙ ap (λ ys. found ++ ys) (append_assoc (lone w) (b ∷ []) (pieces_behind None ps)))
pieces_read (short c ∷ ps) bs w found h = short_on c h.0.0 (pieces_bytes ps ++ 34 ∷ bs) w found h.0.1 ∙ pieces_read ps bs None (found ++ (lone w ++ h.0.0 ∷ [])) h.1
    ∙ text_is bs found _ _ (append_assoc found (lone w ++ h.0.0 ∷ []) (pieces_behind None ps) ∙ ap (λ ys. found ++ ys) (append_assoc (lone w) (h.0.0 ∷ []) (pieces_behind None ps)) ∙ ap (λ o. found ++ (lone w ++ hex_or_0 o ∷ pieces_behind None ps)) (sym h.0.1))
pieces_read (unit a b c d ∷ ps) bs w found h =
    let rest = pieces_bytes ps ++ 34 ∷ bs in
    let u = unit_of a b c d in
    slash_u (a ∷ b ∷ c ∷ d ∷ rest) w found
    ∙ hex_next a 2 0 h.0.0.0 (b ∷ c ∷ d ∷ rest) w found h.0.0.1
    ∙ hex_next b 1 (digit_on 0 a) h.0.1.0 (c ∷ d ∷ rest) w found h.0.1.1
    ∙ hex_next c 0 (digit_on (digit_on 0 a) b) h.0.2.0 (d ∷ rest) w found h.0.2.1
    ∙ hex_last d (digit_on (digit_on (digit_on 0 a) b) c) h.0.3.0 rest w found h.0.3.1
    ∙ pieces_read ps bs (held u) (found ++ joined w u) h.1
    ∙ text_is bs found _ _ (append_assoc found (joined w u) (pieces_behind (held u) ps))

pub string_read : (ps : List Piece) (bs : List ℕ) → ArePieces ps → r.string_at ((pieces_bytes ps ++ 34 ∷ []) ++ bs) ≡ Ok (pieces_text ps, bs)
string_read ps bs h = ap r.string_at (append_assoc (pieces_bytes ps) (34 ∷ []) bs) ∙ pieces_read ps bs None [] h
