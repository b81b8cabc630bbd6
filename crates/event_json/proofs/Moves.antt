-- What the steps of the machine keep.
use Rattle.std.proofs.Common.{◌≡◌, ℕ, zero, suc, ◌≤◌, ◌<◌, List, [], ◌∷◌, length, Option, Some, None, refl, sym, ap, subst, ◌∙◌, arith, Bool, true, false, if◌then◌else◌, ◌==◌, ◌||◌, nat_lt, ◌⊎◌, inl, inr, eqb-true}
use Rattle.std.proofs.lemmas.Bool.Decides.{nat_tests}
use Rattle.std.specs.Str.{IsAscii}
use Rattle.event_tree.specs.NumberTexts.{is_digit}
use Rattle.event_json.specs.Strings.{short_of, hex_of}
use Rattle.event_json.specs.Grammar.{is_space}
use Rattle.event_json.proofs.Tests.{bool_cases}
use Rattle.event_json.proofs.Ascii.{ascii_nil, ascii_cons}
use Rattle.event_json.proofs.Machine.{Frame, in_list, in_object, plain, escape, hex, Mode, want, opened, after, opened_object, key, colon, text, word, minus, nought, digits, point, decimals, exponent, sign, power, Move, fails, passes, moves, others, behind, step, step_after, step_number, step_signed, step_scalar, step_value, step_exponent, step_fraction, step_short, step_hex, step_word, open_if}

-- among the plain bytes of a string, where alone a byte may be no ASCII
abbrev pub is_plain_mode : Mode → Bool
is_plain_mode (text k plain) = true
is_plain_mode _ = false

-- the letters that are still wanted
abbrev pub word_of : Mode → List ℕ
word_of (word w ws) = w ∷ ws
word_of _ = []

abbrev pub Tidy : Mode → Type 0
Tidy m = IsAscii (word_of m)

abbrev pub Low : Mode → ℕ → Type 0
Low m b = is_plain_mode m ≡ true → b < 128

-- a byte that leads anywhere but among plain bytes is ASCII, and so is one that stops there
abbrev pub Kept : Mode → ℕ → Move → Type 0
Kept m b fails = Low m b
Kept m b passes = Low m b
Kept m b (moves n fs) = (is_plain_mode n ≡ false → b < 128) × Tidy n

kept_if : (m : Mode) (b : ℕ) (t : Bool) (x y : Move) → (t ≡ true → Kept m b x) → (t ≡ false → Kept m b y) → Kept m b (if t then x else y)
kept_if m b true x y f g = f refl
kept_if m b false x y f g = g refl

small : (b n : ℕ) → n < 128 → (b == n) ≡ true → b < 128
small b n lt e = omega (arith, eqb-true b n e)

space_small : (b : ℕ) → is_space b ≡ true → b < 128
space_small b e = grind (arith, nat_tests)

digit_small : (b : ℕ) → is_digit b ≡ true → b < 128
digit_small b e = grind (arith, nat_tests)

letter_small : (b : ℕ) → (b == 101 || b == 69) ≡ true → b < 128
letter_small b e = grind (arith, nat_tests)

sign_small : (b : ℕ) → (b == 45 || b == 43) ≡ true → b < 128
sign_small b e = grind (arith, nat_tests)

control_small : (b : ℕ) → nat_lt b 32 ≡ true → b < 128
control_small b e = grind (arith, nat_tests)

ull_ascii : IsAscii (117 ∷ 108 ∷ 108 ∷ [])
ull_ascii = ascii_cons 117 (108 ∷ 108 ∷ []) (omega arith) (ascii_cons 108 (108 ∷ []) (omega arith) (ascii_cons 108 [] (omega arith) ascii_nil))

rue_ascii : IsAscii (114 ∷ 117 ∷ 101 ∷ [])
rue_ascii = ascii_cons 114 (117 ∷ 101 ∷ []) (omega arith) (ascii_cons 117 (101 ∷ []) (omega arith) (ascii_cons 101 [] (omega arith) ascii_nil))

alse_ascii : IsAscii (97 ∷ 108 ∷ 115 ∷ 101 ∷ [])
alse_ascii = ascii_cons 97 (108 ∷ 115 ∷ 101 ∷ []) (omega arith) (ascii_cons 108 (115 ∷ 101 ∷ []) (omega arith) (ascii_cons 115 (101 ∷ []) (omega arith) (ascii_cons 101 [] (omega arith) ascii_nil)))

-- from a mode that is not among plain bytes
module _ (m : Mode) (b : ℕ) (other : is_plain_mode m ≡ false) where
  low : Low m b
  low e = absurd (differ (sym other ∙ e))
    where
      differ : false ≡ true → ⊥
      differ h = cc

  go_on : (n : Mode) (fs : List Frame) → word_of n ≡ [] → b < 128 → Kept m b (moves n fs)
  go_on n fs e lt = ((λ h. lt), subst (λ (ws : List ℕ). IsAscii ws) (sym e) ascii_nil)

  after_kept : (fs : List Frame) → Kept m b (step_after fs b)
  after_kept [] = kept_if m b (is_space b) _ _ (λ e. go_on after [] refl (space_small b e)) (λ e. low)
  after_kept (in_list ∷ fs) = kept_if m b (is_space b) _ _ (λ e. go_on after (in_list ∷ fs) refl (space_small b e)) (λ e. kept_if m b (b == 93) _ _ (λ x. go_on after fs refl (small b 93 (omega arith) x)) (λ x. kept_if m b (b == 44) _ _ (λ y. go_on want (in_list ∷ fs) refl (small b 44 (omega arith) y)) (λ y. low)))
  after_kept (in_object ∷ fs) = kept_if m b (is_space b) _ _ (λ e. go_on after (in_object ∷ fs) refl (space_small b e)) (λ e. kept_if m b (b == 125) _ _ (λ x. go_on after fs refl (small b 125 (omega arith) x)) (λ x. kept_if m b (b == 44) _ _ (λ y. go_on key (in_object ∷ fs) refl (small b 44 (omega arith) y)) (λ y. low)))

  number_kept : (fs : List Frame) → Kept m b (step_number fs b)
  number_kept fs = kept_if m b (b == 48) _ _ (λ x. go_on nought fs refl (small b 48 (omega arith) x)) (λ x. kept_if m b (is_digit b) _ _ (λ y. go_on digits fs refl (digit_small b y)) (λ y. low))

  signed_kept : (fs : List Frame) → Kept m b (step_signed fs b)
  signed_kept fs = kept_if m b (b == 45) _ _ (λ x. go_on minus fs refl (small b 45 (omega arith) x)) (λ x. number_kept fs)

  letters : (w : ℕ) (ws : List ℕ) (fs : List Frame) → b < 128 → IsAscii (w ∷ ws) → Kept m b (moves (word w ws) fs)
  letters w ws fs lt a = ((λ h. lt), a)

  scalar_kept : (fs : List Frame) → Kept m b (step_scalar fs b)
  scalar_kept fs = kept_if m b (b == 110) _ _ (λ x. letters 117 (108 ∷ 108 ∷ []) fs (small b 110 (omega arith) x) ull_ascii)
      (λ x. kept_if m b (b == 116) _ _ (λ y. letters 114 (117 ∷ 101 ∷ []) fs (small b 116 (omega arith) y) rue_ascii)
      (λ y. kept_if m b (b == 102) _ _ (λ z. letters 97 (108 ∷ 115 ∷ 101 ∷ []) fs (small b 102 (omega arith) z) alse_ascii)
      (λ z. signed_kept fs)))

  open_kept : (room : Bool) (n : Mode) (fs : List Frame) → word_of n ≡ [] → b < 128 → Kept m b (open_if room n fs)
  open_kept true n fs e lt = go_on n fs e lt
  open_kept false n fs e lt = low

  value_kept : (levels : ℕ) (fs : List Frame) → Kept m b (step_value levels fs b)
  value_kept levels fs = kept_if m b (b == 34) _ _ (λ x. go_on (text false plain) fs refl (small b 34 (omega arith) x))
      (λ x. kept_if m b (b == 91) _ _ (λ y. open_kept (nat_lt (length fs) levels) opened (in_list ∷ fs) refl (small b 91 (omega arith) y))
      (λ y. kept_if m b (b == 123) _ _ (λ z. open_kept (nat_lt (length fs) levels) opened_object (in_object ∷ fs) refl (small b 123 (omega arith) z)) (λ z. scalar_kept fs)))

  exponent_kept : (fs : List Frame) → Kept m b (step_exponent fs b)
  exponent_kept fs = kept_if m b (b == 101 || b == 69) _ _ (λ x. go_on exponent fs refl (letter_small b x)) (λ x. after_kept fs)

  fraction_kept : (fs : List Frame) → Kept m b (step_fraction fs b)
  fraction_kept fs = kept_if m b (b == 46) _ _ (λ x. go_on point fs refl (small b 46 (omega arith) x)) (λ x. exponent_kept fs)

  to_plain : (k : Bool) (fs : List Frame) → Kept m b (moves (text k plain) fs)
  to_plain k fs = ((λ h. absurd (differ h)), ascii_nil)
    where
      differ : true ≡ false → ⊥
      differ h = cc

short_kept : (k : Bool) (fs : List Frame) (b : ℕ) (o : Option ℕ) → Kept (text k escape) b (step_short k fs o)
short_kept k fs b None = low (text k escape) b refl
short_kept k fs b (Some c) = to_plain (text k escape) b refl k fs

hex_small : (b d : ℕ) → hex_of b ≡ Some d → b < 128
hex_small b d e = bool_cases (nat_lt b 128) (λ t. grind (arith, nat_tests)) (λ t. absurd (no_hex b d t e))
  where
    no_hex : (b d : ℕ) → nat_lt b 128 ≡ false → hex_of b ≡ Some d → ⊥
    no_hex b d t e = grind (arith, nat_tests)

hex_kept : (k : Bool) (fs : List Frame) (b n : ℕ) (o : Option ℕ) → hex_of b ≡ o → Kept (text k (hex n)) b (step_hex k fs n o)
hex_kept k fs b n None e = low (text k (hex n)) b refl
hex_kept k fs b zero (Some d) e = to_plain (text k (hex zero)) b refl k fs
hex_kept k fs b (suc n) (Some d) e = go_on (text k (hex (suc n))) b refl (text k (hex n)) fs refl (hex_small b d e)

behind_word : (k : Bool) → word_of (behind k) ≡ []
behind_word true = refl
behind_word false = refl

word_kept : (w b : ℕ) (ws : List ℕ) (fs : List Frame) → IsAscii (w ∷ ws) → b < 128 → Kept (word w ws) b (step_word ws fs)
word_kept w b [] fs a lt = go_on (word w []) b refl after fs refl lt
word_kept w b (x ∷ ws) fs a lt = ((λ h. lt), λ i. a (suc i))

pub step_kept : (levels : ℕ) (m : Mode) (fs : List Frame) (b : ℕ) → Tidy m → Kept m b (step levels m fs b)
step_kept levels want fs b t = kept_if want b (is_space b) _ _ (λ e. go_on want b refl want fs refl (space_small b e)) (λ e. value_kept want b refl levels fs)
step_kept levels opened fs b t = kept_if opened b (is_space b) _ _ (λ e. go_on opened b refl opened fs refl (space_small b e)) (λ e. kept_if opened b (b == 93) _ _ (λ x. go_on opened b refl after (others fs) refl (small b 93 (omega arith) x)) (λ x. value_kept opened b refl levels fs))
step_kept levels after fs b t = after_kept after b refl fs
step_kept levels opened_object fs b t = kept_if opened_object b (is_space b) _ _ (λ e. go_on opened_object b refl opened_object fs refl (space_small b e)) (λ e. kept_if opened_object b (b == 125) _ _ (λ x. go_on opened_object b refl after (others fs) refl (small b 125 (omega arith) x)) (λ x. kept_if opened_object b (b == 34) _ _ (λ y. to_plain opened_object b refl true fs) (λ y. low opened_object b refl)))
step_kept levels key fs b t = kept_if key b (is_space b) _ _ (λ e. go_on key b refl key fs refl (space_small b e)) (λ e. kept_if key b (b == 34) _ _ (λ y. to_plain key b refl true fs) (λ y. low key b refl))
step_kept levels colon fs b t = kept_if colon b (is_space b) _ _ (λ e. go_on colon b refl colon fs refl (space_small b e)) (λ e. kept_if colon b (b == 58) _ _ (λ y. go_on colon b refl want fs refl (small b 58 (omega arith) y)) (λ y. low colon b refl))
step_kept levels (text k plain) fs b t = kept_if (text k plain) b (b == 34) _ _ (λ x. ((λ h. small b 34 (omega arith) x), subst (λ (ws : List ℕ). IsAscii ws) (sym (behind_word k)) ascii_nil))
    (λ x. kept_if (text k plain) b (b == 92) _ _ (λ y. ((λ h. small b 92 (omega arith) y), ascii_nil)) (λ y. kept_if (text k plain) b (nat_lt b 32) _ _ (λ z h. control_small b z) (λ z. ((λ h. absurd (differ h)), ascii_nil))))
  where
    differ : true ≡ false → ⊥
    differ h = cc
step_kept levels (text k escape) fs b t = kept_if (text k escape) b (b == 117) _ _ (λ x. go_on (text k escape) b refl (text k (hex 3)) fs refl (small b 117 (omega arith) x)) (λ x. short_kept k fs b (short_of b))
step_kept levels (text k (hex n)) fs b t = hex_kept k fs b n (hex_of b) refl
step_kept levels (word w ws) fs b t = kept_if (word w ws) b (b == w) _ _ (λ x. word_kept w b ws fs t (subst (λ c. c < 128) (sym (eqb-true b w x)) (t 0))) (λ x. low (word w ws) b refl)
step_kept levels minus fs b t = number_kept minus b refl fs
step_kept levels nought fs b t = fraction_kept nought b refl fs
step_kept levels digits fs b t = kept_if digits b (is_digit b) _ _ (λ x. go_on digits b refl digits fs refl (digit_small b x)) (λ x. fraction_kept digits b refl fs)
step_kept levels point fs b t = kept_if point b (is_digit b) _ _ (λ x. go_on point b refl decimals fs refl (digit_small b x)) (λ x. low point b refl)
step_kept levels decimals fs b t = kept_if decimals b (is_digit b) _ _ (λ x. go_on decimals b refl decimals fs refl (digit_small b x)) (λ x. exponent_kept decimals b refl fs)
step_kept levels exponent fs b t = kept_if exponent b (b == 45 || b == 43) _ _ (λ x. go_on exponent b refl sign fs refl (sign_small b x)) (λ x. kept_if exponent b (is_digit b) _ _ (λ y. go_on exponent b refl power fs refl (digit_small b y)) (λ y. low exponent b refl))
step_kept levels sign fs b t = kept_if sign b (is_digit b) _ _ (λ x. go_on sign b refl power fs refl (digit_small b x)) (λ x. low sign b refl)
step_kept levels power fs b t = kept_if power b (is_digit b) _ _ (λ x. go_on power b refl power fs refl (digit_small b x)) (λ x. after_kept power b refl fs)

-- ---- with more levels

-- with more levels the machine does the same, but where there were too few
abbrev pub Raised : Move → Move → Type 0
Raised low high = (high ≡ low) ⊎ (low ≡ passes)

raised_if : (t : Bool) (a x y : Move) → Raised x y → Raised (if t then a else x) (if t then a else y)
raised_if true a x y r = inl refl
raised_if false a x y r = r

raised_open : (room more : Bool) (m : Mode) (fs : List Frame) → (room ≡ true → more ≡ true) → Raised (open_if room m fs) (open_if more m fs)
raised_open true more m fs h = inl (ap (λ t. open_if t m fs) (h refl))
raised_open false more m fs h = inr refl

raised_test : (t : Bool) (a b x y : Move) → Raised a b → Raised x y → Raised (if t then a else x) (if t then b else y)
raised_test true a b x y r s = r
raised_test false a b x y r s = s

more_room : (n l h : ℕ) → l ≤ h → nat_lt n l ≡ true → nat_lt n h ≡ true
more_room n l h le e = grind (arith, nat_tests)

raised_value : (l h : ℕ) (fs : List Frame) (b : ℕ) → l ≤ h → Raised (step_value l fs b) (step_value h fs b)
raised_value l h fs b le =
    raised_if (b == 34) _ _ _ (raised_test (b == 91) _ _ _ _ (raised_open (nat_lt (length fs) l) (nat_lt (length fs) h) opened (in_list ∷ fs) (more_room (length fs) l h le))
    (raised_test (b == 123) _ _ _ _ (raised_open (nat_lt (length fs) l) (nat_lt (length fs) h) opened_object (in_object ∷ fs) (more_room (length fs) l h le)) (inl refl)))

pub raised : (l h : ℕ) (m : Mode) (fs : List Frame) (b : ℕ) → l ≤ h → Raised (step l m fs b) (step h m fs b)
raised l h want fs b le = raised_if (is_space b) _ _ _ (raised_value l h fs b le)
raised l h opened fs b le = raised_if (is_space b) _ _ _ (raised_if (b == 93) _ _ _ (raised_value l h fs b le))
raised l h after fs b le = inl refl
raised l h opened_object fs b le = inl refl
raised l h key fs b le = inl refl
raised l h colon fs b le = inl refl
raised l h (text k place) fs b le = inl refl
raised l h (word w ws) fs b le = inl refl
raised l h minus fs b le = inl refl
raised l h nought fs b le = inl refl
raised l h digits fs b le = inl refl
raised l h point fs b le = inl refl
raised l h decimals fs b le = inl refl
raised l h exponent fs b le = inl refl
raised l h sign fs b le = inl refl
raised l h power fs b le = inl refl

-- where there is room, an opening byte opens
abbrev pub NotPasses : Move → Type 0
NotPasses passes = ⊥
NotPasses _ = Unit {0}

not_if : (t : Bool) (x y : Move) → NotPasses x → NotPasses y → NotPasses (if t then x else y)
not_if true x y f g = f
not_if false x y f g = g

room_value : (h : ℕ) (fs : List Frame) (b : ℕ) → nat_lt (length fs) h ≡ true → NotPasses (step_value h fs b)
room_value h fs b e = not_if (b == 34) _ _ tt (not_if (b == 91) _ _ (rw e tt) (not_if (b == 123) _ _ (rw e tt) (not_if (b == 110) _ _ tt (not_if (b == 116) _ _ tt (not_if (b == 102) _ _ tt (not_if (b == 45) _ _ tt (not_if (b == 48) _ _ tt (not_if (is_digit b) _ _ tt tt))))))))

after_not : (fs : List Frame) (b : ℕ) → NotPasses (step_after fs b)
after_not [] b = not_if (is_space b) _ _ tt tt
after_not (in_list ∷ fs) b = not_if (is_space b) _ _ tt (not_if (b == 93) _ _ tt (not_if (b == 44) _ _ tt tt))
after_not (in_object ∷ fs) b = not_if (is_space b) _ _ tt (not_if (b == 125) _ _ tt (not_if (b == 44) _ _ tt tt))

number_not : (fs : List Frame) (b : ℕ) → NotPasses (step_number fs b)
number_not fs b = not_if (b == 48) _ _ tt (not_if (is_digit b) _ _ tt tt)

exponent_not : (fs : List Frame) (b : ℕ) → NotPasses (step_exponent fs b)
exponent_not fs b = not_if (b == 101 || b == 69) _ _ tt (after_not fs b)

fraction_not : (fs : List Frame) (b : ℕ) → NotPasses (step_fraction fs b)
fraction_not fs b = not_if (b == 46) _ _ tt (exponent_not fs b)

short_not : (k : Bool) (fs : List Frame) (o : Option ℕ) → NotPasses (step_short k fs o)
short_not k fs None = tt
short_not k fs (Some c) = tt

hex_not : (k : Bool) (fs : List Frame) (n : ℕ) (o : Option ℕ) → NotPasses (step_hex k fs n o)
hex_not k fs n None = tt
hex_not k fs zero (Some d) = tt
hex_not k fs (suc n) (Some d) = tt

word_not : (ws : List ℕ) (fs : List Frame) → NotPasses (step_word ws fs)
word_not [] fs = tt
word_not (w ∷ ws) fs = tt

has_room : (n h : ℕ) → n < h → nat_lt n h ≡ true
has_room n h lt = grind (arith, nat_tests)

-- where there is room for a level, no byte passes the levels
pub room : (h : ℕ) (m : Mode) (fs : List Frame) (b : ℕ) → length fs < h → NotPasses (step h m fs b)
room h want fs b lt = not_if (is_space b) _ _ tt (room_value h fs b (has_room (length fs) h lt))
room h opened fs b lt = not_if (is_space b) _ _ tt (not_if (b == 93) _ _ tt (room_value h fs b (has_room (length fs) h lt)))
room h after fs b lt = after_not fs b
room h opened_object fs b lt = not_if (is_space b) _ _ tt (not_if (b == 125) _ _ tt (not_if (b == 34) _ _ tt tt))
room h key fs b lt = not_if (is_space b) _ _ tt (not_if (b == 34) _ _ tt tt)
room h colon fs b lt = not_if (is_space b) _ _ tt (not_if (b == 58) _ _ tt tt)
room h (text k plain) fs b lt = not_if (b == 34) _ _ tt (not_if (b == 92) _ _ tt (not_if (nat_lt b 32) _ _ tt tt))
room h (text k escape) fs b lt = not_if (b == 117) _ _ tt (short_not k fs (short_of b))
room h (text k (hex n)) fs b lt = hex_not k fs n (hex_of b)
room h (word w ws) fs b lt = not_if (b == w) _ _ (word_not ws fs) tt
room h minus fs b lt = number_not fs b
room h nought fs b lt = fraction_not fs b
room h digits fs b lt = not_if (is_digit b) _ _ tt (fraction_not fs b)
room h point fs b lt = not_if (is_digit b) _ _ tt tt
room h decimals fs b lt = not_if (is_digit b) _ _ tt (exponent_not fs b)
room h exponent fs b lt = not_if (b == 45 || b == 43) _ _ tt (not_if (is_digit b) _ _ tt tt)
room h sign fs b lt = not_if (is_digit b) _ _ tt tt
room h power fs b lt = not_if (is_digit b) _ _ tt (after_not fs b)

-- a byte that fails fails with any number of levels
pub fails_more : (l h : ℕ) (m : Mode) (fs : List Frame) (b : ℕ) → l ≤ h → step l m fs b ≡ fails → step h m fs b ≡ fails
fails_more l h m fs b le e = elim (raised l h m fs b le) [ inl same ↦ same ∙ e | inr deep ↦ absurd (differ (sym e ∙ deep)) ]
  where
    differ : fails ≡ passes → ⊥
    differ x = cc

pub moves_more : (l h : ℕ) (m n : Mode) (fs gs : List Frame) (b : ℕ) → l ≤ h → step l m fs b ≡ moves n gs → step h m fs b ≡ moves n gs
moves_more l h m n fs gs b le e = elim (raised l h m fs b le) [ inl same ↦ same ∙ e | inr deep ↦ absurd (differ (sym e ∙ deep)) ]
  where
    differ : moves n gs ≡ passes → ⊥
    differ x = cc

-- ---- what passes the levels

-- only a bracket or brace passes the levels, and only where a value is wanted
abbrev pub Opens : ℕ → Mode → Move → Type 0
Opens b n passes = ((b ≡ 91) ⊎ (b ≡ 123)) × ((n ≡ want) ⊎ (n ≡ opened))
Opens b n _ = Unit {0}

opens_not : (b : ℕ) (n : Mode) (o : Move) → NotPasses o → Opens b n o
opens_not b n fails h = tt
opens_not b n passes h = absurd h
opens_not b n (moves m fs) h = tt

opens_if : (b : ℕ) (n : Mode) (t : Bool) (x y : Move) → (t ≡ true → Opens b n x) → (t ≡ false → Opens b n y) → Opens b n (if t then x else y)
opens_if b n true x y f g = f refl
opens_if b n false x y f g = g refl

opens_open : (b : ℕ) (n m : Mode) (fs : List Frame) (room : Bool) → ((b ≡ 91) ⊎ (b ≡ 123)) → ((n ≡ want) ⊎ (n ≡ opened)) → Opens b n (open_if room m fs)
opens_open b n m fs true e f = tt
opens_open b n m fs false e f = (e, f)

scalar_not : (fs : List Frame) (b : ℕ) → NotPasses (step_scalar fs b)
scalar_not fs b = not_if (b == 110) _ _ tt (not_if (b == 116) _ _ tt (not_if (b == 102) _ _ tt (not_if (b == 45) _ _ tt (number_not fs b))))

opens_value : (l b : ℕ) (n : Mode) (fs : List Frame) → ((n ≡ want) ⊎ (n ≡ opened)) → Opens b n (step_value l fs b)
opens_value l b n fs f = opens_if b n (b == 34) _ _ (λ x. tt) (λ x. opens_if b n (b == 91) _ _ (λ y. opens_open b n opened (in_list ∷ fs) (nat_lt (length fs) l) (inl (eqb-true b 91 y)) f)
    (λ y. opens_if b n (b == 123) _ _ (λ z. opens_open b n opened_object (in_object ∷ fs) (nat_lt (length fs) l) (inr (eqb-true b 123 z)) f) (λ z. opens_not b n (step_scalar fs b) (scalar_not fs b))))

one_more : (n : ℕ) → n < suc n
one_more n = omega arith

pub opens : (l : ℕ) (n : Mode) (fs : List Frame) (b : ℕ) → Opens b n (step l n fs b)
opens l want fs b = opens_if b want (is_space b) _ _ (λ x. tt) (λ x. opens_value l b want fs (inl refl))
opens l opened fs b = opens_if b opened (is_space b) _ _ (λ x. tt) (λ x. opens_if b opened (b == 93) _ _ (λ y. tt) (λ y. opens_value l b opened fs (inr refl)))
opens l after fs b = opens_not b after (step l after fs b) (room (suc (length fs)) after fs b (one_more (length fs)))
opens l opened_object fs b = opens_not b opened_object (step l opened_object fs b) (room (suc (length fs)) opened_object fs b (one_more (length fs)))
opens l key fs b = opens_not b key (step l key fs b) (room (suc (length fs)) key fs b (one_more (length fs)))
opens l colon fs b = opens_not b colon (step l colon fs b) (room (suc (length fs)) colon fs b (one_more (length fs)))
opens l (text k place) fs b = opens_not b (text k place) (step l (text k place) fs b) (room (suc (length fs)) (text k place) fs b (one_more (length fs)))
opens l (word w ws) fs b = opens_not b (word w ws) (step l (word w ws) fs b) (room (suc (length fs)) (word w ws) fs b (one_more (length fs)))
opens l minus fs b = opens_not b minus (step l minus fs b) (room (suc (length fs)) minus fs b (one_more (length fs)))
opens l nought fs b = opens_not b nought (step l nought fs b) (room (suc (length fs)) nought fs b (one_more (length fs)))
opens l digits fs b = opens_not b digits (step l digits fs b) (room (suc (length fs)) digits fs b (one_more (length fs)))
opens l point fs b = opens_not b point (step l point fs b) (room (suc (length fs)) point fs b (one_more (length fs)))
opens l decimals fs b = opens_not b decimals (step l decimals fs b) (room (suc (length fs)) decimals fs b (one_more (length fs)))
opens l exponent fs b = opens_not b exponent (step l exponent fs b) (room (suc (length fs)) exponent fs b (one_more (length fs)))
opens l sign fs b = opens_not b sign (step l sign fs b) (room (suc (length fs)) sign fs b (one_more (length fs)))
opens l power fs b = opens_not b power (step l power fs b) (room (suc (length fs)) power fs b (one_more (length fs)))

open_never : (room : Bool) (m : Mode) (fs : List Frame) → open_if room m fs ≡ fails → ⊥
open_never true m fs e = cc
open_never false m fs e = cc

-- and there it never fails
pub opens_never : (h : ℕ) (n : Mode) (fs : List Frame) (b : ℕ) → (b ≡ 91) ⊎ (b ≡ 123) → (n ≡ want) ⊎ (n ≡ opened) → step h n fs b ≡ fails → ⊥
opens_never h n fs b (inl e) (inl f) q = open_never (nat_lt (length fs) h) opened (in_list ∷ fs) (subst (λ m. step h m fs 91 ≡ fails) f (subst (λ x. step h n fs x ≡ fails) e q))
opens_never h n fs b (inl e) (inr f) q = open_never (nat_lt (length fs) h) opened (in_list ∷ fs) (subst (λ m. step h m fs 91 ≡ fails) f (subst (λ x. step h n fs x ≡ fails) e q))
opens_never h n fs b (inr e) (inl f) q = open_never (nat_lt (length fs) h) opened_object (in_object ∷ fs) (subst (λ m. step h m fs 123 ≡ fails) f (subst (λ x. step h n fs x ≡ fails) e q))
opens_never h n fs b (inr e) (inr f) q = open_never (nat_lt (length fs) h) opened_object (in_object ∷ fs) (subst (λ m. step h m fs 123 ≡ fails) f (subst (λ x. step h n fs x ≡ fails) e q))
