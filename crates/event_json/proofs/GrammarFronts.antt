-- What is read in front of the rest: blanks, the parts of a number, literals and strings.
use Rattle.std.proofs.Common.{◌≡◌, ℕ, ◌≤◌, List, [], ◌∷◌, ◌++◌, Result, Ok, Err, refl, ap, arith, true, false, ◌==◌, ◌||◌, inl, inr, ◌⊎◌, append_assoc, eqb-true}
use Rattle.std.proofs.lemmas.Bool.Decides.{nat_tests}
use Rattle.event_tree.specs.NumberTexts.{is_digit}
use Rattle.event_json.specs.Grammar.{Number, AreSpace, AreDigits, AreSomeDigits, IsWhole, IsMinus, IsFraction, IsPower, IsExponent, IsNumber, number_bytes, is_space}
use Rattle.event_json.specs.Reading as r
use Rattle.event_json.specs.Reading.{◌>>=◌, Fault, At, Deep, Inside, plainly, escaped, digits_in, inside_at, turn, turned, plain_turn, short_turn, digit_turn}
use Rattle.event_json.proofs.Tests.{bool_cases}

pub digit_from : (b : ℕ) → is_digit b ≡ true → (48 ≤ b) × (b ≤ 57)
digit_from b e = (grind (arith, nat_tests), grind (arith, nat_tests))

-- the bytes are a front with this property, and then the rest
abbrev pub Fronts : (List ℕ → Type 0) → List ℕ → List ℕ → Type 0
Fronts P bytes rest = (front : List ℕ) × P front × (bytes ≡ front ++ rest)

space_cons : (b : ℕ) (bs rest : List ℕ) → is_space b ≡ true → Fronts AreSpace bs rest → Fronts AreSpace (b ∷ bs) rest
space_cons b bs rest e f = (b ∷ f.0, (e, f.1), ap (λ ys. b ∷ ys) f.2)

pub skip_front : (bs : List ℕ) → Fronts AreSpace bs (r.skip bs)
skip_front [] = ([], tt, refl)
skip_front (b ∷ bs) = bool_cases (is_space b) (λ e. rw e (space_cons b bs (r.skip bs) e (skip_front bs))) (λ e. rw e ([], tt, refl))

digits_cons : (b : ℕ) (bs rest : List ℕ) → is_digit b ≡ true → Fronts AreDigits bs rest → Fronts AreDigits (b ∷ bs) rest
digits_cons b bs rest e f = (b ∷ f.0, (e, f.1), ap (λ ys. b ∷ ys) f.2)

skip_digits_front : (bs : List ℕ) → Fronts AreDigits bs (r.skip_digits bs)
skip_digits_front [] = ([], tt, refl)
skip_digits_front (b ∷ bs) = bool_cases (is_digit b) (λ e. rw e (digits_cons b bs (r.skip_digits bs) e (skip_digits_front bs))) (λ e. rw e ([], tt, refl))

-- what was read is a front with this property
abbrev pub Read : (List ℕ → Type 0) → List ℕ → Result (List ℕ) Fault → Type 0
Read P bytes (Ok rest) = Fronts P bytes rest
Read P bytes (Err f) = Unit {0}

some_digits : (b : ℕ) (bs rest : List ℕ) → is_digit b ≡ true → Fronts AreDigits bs rest → Fronts AreSomeDigits (b ∷ bs) rest
some_digits b bs rest e f = (b ∷ f.0, (omega arith, (e, f.1)), ap (λ ys. b ∷ ys) f.2)

digits_read : (bs : List ℕ) → Read AreSomeDigits bs (r.digits bs)
digits_read [] = tt
digits_read (b ∷ bs) = bool_cases (is_digit b) (λ e. rw e (some_digits b bs (r.skip_digits bs) e (skip_digits_front bs))) (λ e. rw e tt)

-- a byte before it
read_cons : (P Q : List ℕ → Type 0) (b : ℕ) (bs : List ℕ) (read : Result (List ℕ) Fault) → ((front : List ℕ) → P front → Q (b ∷ front)) → Read P bs read → Read Q (b ∷ bs) read
read_cons P Q b bs (Ok rest) f h = (b ∷ h.0, f h.0 h.1, ap (λ ys. b ∷ ys) h.2)
read_cons P Q b bs (Err e) f h = tt

fraction_read : (bs : List ℕ) → Read IsFraction bs (r.fraction bs)
fraction_read [] = ([], tt, refl)
fraction_read (b ∷ bs) = bool_cases (b == 46) (λ e. rw e (read_cons AreSomeDigits IsFraction b bs (r.digits bs) (λ front h. (eqb-true b 46 e, h)) (digits_read bs))) (λ e. rw e ([], tt, refl))

weaker : (P Q : List ℕ → Type 0) (bs : List ℕ) (read : Result (List ℕ) Fault) → ((front : List ℕ) → P front → Q front) → Read P bs read → Read Q bs read
weaker P Q bs (Ok rest) f h = (h.0, f h.0 h.1, h.2)
weaker P Q bs (Err e) f h = tt

power_plain : (front : List ℕ) → AreSomeDigits front → IsPower front
power_plain [] h = absurd (omega (arith, h.0))
power_plain (b ∷ front) h = inr h

sign_from : (b : ℕ) → (b == 45 || b == 43) ≡ true → (b ≡ 43) ⊎ (b ≡ 45)
sign_from b e = bool_cases (b == 45) (λ x. inr (eqb-true b 45 x)) (λ x. inl (eqb-true b 43 (rw x at e)))

power_read : (bs : List ℕ) → Read IsPower bs (r.digits (r.after_sign bs))
power_read [] = tt
power_read (b ∷ bs) = bool_cases (b == 45 || b == 43) (λ e. rw e (read_cons AreSomeDigits IsPower b bs (r.digits bs) (λ front h. inl (sign_from b e, h)) (digits_read bs))) (λ e. rw e (weaker AreSomeDigits IsPower (b ∷ bs) (r.digits (b ∷ bs)) power_plain (digits_read (b ∷ bs))))

letter_from : (b : ℕ) → (b == 101 || b == 69) ≡ true → (b ≡ 101) ⊎ (b ≡ 69)
letter_from b e = bool_cases (b == 101) (λ x. inl (eqb-true b 101 x)) (λ x. inr (eqb-true b 69 (rw x at e)))

exponent_read : (bs : List ℕ) → Read IsExponent bs (r.exponent bs)
exponent_read [] = ([], tt, refl)
exponent_read (b ∷ bs) = bool_cases (b == 101 || b == 69) (λ e. rw e (read_cons IsPower IsExponent b bs (r.digits (r.after_sign bs)) (λ front h. (letter_from b e, h)) (power_read bs))) (λ e. rw e ([], tt, refl))

whole_digits : (b : ℕ) (bs : List ℕ) → (b == 48) ≡ false → is_digit b ≡ true → Fronts AreDigits bs (r.skip_digits bs) → Fronts IsWhole (b ∷ bs) (r.skip_digits bs)
whole_digits b bs n e f = let d = digit_from b e in (b ∷ f.0, inr (grind (arith, nat_tests), d.1, f.1), ap (λ ys. b ∷ ys) f.2)

whole_read : (bs : List ℕ) → Read IsWhole bs (r.whole bs)
whole_read [] = tt
whole_read (b ∷ bs) = bool_cases (b == 48) (λ e. rw e (b ∷ [], inl (eqb-true b 48 e, refl), refl)) (λ e. rw e (bool_cases (is_digit b) (λ d. rw d (whole_digits b bs e d (skip_digits_front bs))) (λ d. rw d tt)))

minus_front : (bs : List ℕ) → Fronts IsMinus bs (r.after_minus bs)
minus_front [] = ([], inl refl, refl)
minus_front (b ∷ bs) = bool_cases (b == 45) (λ e. rw e (45 ∷ [], inr refl, ap (λ x. x ∷ bs) (eqb-true b 45 e))) (λ e. rw e ([], inl refl, refl))

abbrev pub IsNumberText : List ℕ → Type 0
IsNumberText front = (x : Number) × IsNumber x × (front ≡ number_bytes x)

number_parts : (bytes m w f e a b c : List ℕ) → bytes ≡ m ++ a → a ≡ w ++ b → b ≡ f ++ c → (d : List ℕ) → c ≡ e ++ d → bytes ≡ (m ++ (w ++ (f ++ e))) ++ d
number_parts bytes m w f e a b c h i j d k = rw (h, i, j, k) (simp append_assoc)

with_exponent : (bytes m w f a b c : List ℕ) → bytes ≡ m ++ a → a ≡ w ++ b → b ≡ f ++ c → IsMinus m → IsWhole w → IsFraction f → (read : Result (List ℕ) Fault) → Read IsExponent c read → Read IsNumberText bytes read
with_exponent bytes m w f a b c h i j hm hw hf (Ok d) g = (m ++ (w ++ (f ++ g.0)), (record { minus = m; whole = w; fraction = f; exponent = g.0 }, record { minus = hm; whole = hw; fraction = hf; exponent = g.1 }, refl), number_parts bytes m w f g.0 a b c h i j d g.2)
with_exponent bytes m w f a b c h i j hm hw hf (Err e) g = tt

with_fraction : (bytes m w a b : List ℕ) → bytes ≡ m ++ a → a ≡ w ++ b → IsMinus m → IsWhole w → (read : Result (List ℕ) Fault) → Read IsFraction b read → Read IsNumberText bytes (read >>= r.exponent)
with_fraction bytes m w a b h i hm hw (Ok c) g = with_exponent bytes m w g.0 a b c h i g.2 hm hw g.1 (r.exponent c) (exponent_read c)
with_fraction bytes m w a b h i hm hw (Err e) g = tt

with_whole : (bytes m a : List ℕ) → bytes ≡ m ++ a → IsMinus m → (read : Result (List ℕ) Fault) → Read IsWhole a read → Read IsNumberText bytes (read >>= λ x. r.fraction x >>= r.exponent)
with_whole bytes m a h hm (Ok b) g = with_fraction bytes m g.0 a b h g.2 hm g.1 (r.fraction b) (fraction_read b)
with_whole bytes m a h hm (Err e) g = tt

pub number_read : (bs : List ℕ) → Read IsNumberText bs (r.after_number bs)
unfolding r.after_number
number_read bs = let m = minus_front bs in with_whole bs m.0 (r.after_minus bs) m.2 m.1 (r.whole (r.after_minus bs)) (whole_read (r.after_minus bs))

-- ---- literals

pub word_read : (word bs : List ℕ) → Read (λ front. front ≡ word) bs (r.after_word word bs)
word_read [] bs = ([], refl, refl)
word_read (w ∷ ws) [] = tt
word_read (w ∷ ws) (b ∷ bs) = bool_cases (b == w) (λ e. rw e (read_cons (λ front. front ≡ ws) (λ front. front ≡ w ∷ ws) b bs (r.after_word ws bs) (λ front h. λ i. eqb-true b w e i ∷ h i) (word_read ws bs))) (λ e. rw e tt)

-- ---- strings
