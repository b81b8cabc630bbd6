-- The text of a number is read as that number.
use Rattle.std.proofs.Common.{◌≡◌, ℕ, zero, suc, ◌+◌, ◌-◌, ◌*◌, ◌%◌, ◌^◌, ◌<◌, ◌≤◌, ◌==◌, ◌&&◌, ◌||◌, ◌⊎◌, inl, inr, nat_le, ℤ, pos, negsuc, unsigned_abs, List, [], ◌∷◌, ◌++◌, length, take, drop, Option, Some, None, option_and_then, Bool, true, false, if◌then◌else◌, refl, ap, sym, subst, ◌∙◌, arith, append_assoc, length-append, eqb-true}
use Rattle.std.proofs.lemmas.Bool.{and_parts, and_from}
use Rattle.std.specs.Prelude.{int_rem, int_div}
use Rattle.std.specs.Ordering.{int_eq}
use Rattle.std.specs.List.{list_all}
use Rattle.std.proofs.lemmas.Int.{ints}
use Rattle.std.proofs.lemmas.Bool.Decides.{nat_tests, Decides-int_eq}
use Rattle.std.proofs.lemmas.List.{append-nil, take-append-drop, length-drop, length-take}
use Rattle.std.proofs.Math.Seq.{take-append_seam, drop-append_seam, take-length, drop-length}
use Rattle.event_tree.specs.Number.{Num, IsLeast, least}
use Rattle.event_tree.specs.Paths.{at_most}
use Rattle.event_tree.specs.NumberTexts.{numeral, is_digit, AreDigits, number, signed, most, IsI64}
use Rattle.event_tree.proofs.Tens.{number-append}
use Rattle.event_tree.proofs.DecimalLemmas.{magnitude}
use Rattle.event_json.proofs.Tests.{bool_cases}
use Rattle.event_json.proofs.NumberLaws.{least_same}
use Rattle.event_json.proofs.LeastForms.{least_some}
use Rattle.event_json.proofs.DecimalDigits.{padded_writes, take_digits, drop_digits, length-padded}
use Rattle.std.proofs.lemmas.Option.{same_Some}
use Rattle.event_json.specs.Json.{padded, pointed, sign_of, number_text}
use Rattle.config_lex.specs.Bytes.{passing, is_blank, is_letter, begins_with, begins_digit, sign_length, point_length, whole_length, number_length, begins_number, zeros_behind, without_zeros, number_of}
use Rattle.config_print.proofs.Strings.{is_plain, ArePlain}
use Rattle.config_print.proofs.Words.{Apart, blank_case, run_all, run_passes}

-- ---- numbers that are read are in least form

abbrev pub IsHeld : Num → Type 0
IsHeld n = IsLeast n.mantissa n.scale × IsI64 n.mantissa

tenth_held : (z : ℤ) → IsI64 z → IsI64 (int_div z (pos 10))
tenth_held z h = (omega (arith, ints, h.0, h.1), omega (arith, ints, h.0, h.1))

fits_least : (z : ℤ) (s : ℕ) (n : Num) → IsI64 z → least z s ≡ Some n → IsI64 n.mantissa
fits_least z zero n h e = subst (λ (x : Num). IsI64 x.mantissa) (same_Some (record { mantissa = z; scale = 0 }) n e) h
fits_least z (suc s) n h e = bool_cases (int_eq (int_rem z (pos 10)) (pos 0)) (λ t. fits_least (int_div z (pos 10)) s n (tenth_held z h) (rw t at e)) (λ t. ends (nat_le (suc s) 18) (rw t at e))
  where
    ends : (t : Bool) → ◌≡◌ {A = Option Num} (if t then Some (record { mantissa = z; scale = suc s }) else None) (Some n) → IsI64 n.mantissa
    ends true k = subst (λ (x : Num). IsI64 x.mantissa) (same_Some (record { mantissa = z; scale = suc s }) n k) h
    ends false k = absurd (cc)

least_held : (z : ℤ) (s : ℕ) (n : Num) → IsI64 z → least z s ≡ Some n → IsHeld n
least_held z s n h e = ((least_some z s n e).0, fits_least z s n h e)

signed_held : (negative : Bool) (k : ℕ) → k ≤ most negative → IsI64 (signed negative k)
signed_held true k h = (omega (arith, ints), omega (arith, ints))
signed_held false k h = (omega (arith, ints), omega (arith, ints))

at_most_some : (negative : Bool) (k : ℕ) (l : ℕ) (n : Num) → option_and_then (λ k. least (signed negative k) l) (at_most (most negative) (Some k)) ≡ Some n → IsHeld n
at_most_some negative k l n h = at (nat_le k (most negative)) refl h
  where
    at : (y : Bool) → nat_le k (most negative) ≡ y → option_and_then (λ k. least (signed negative k) l) (if y then Some k else None) ≡ Some n → IsHeld n
    at true u e = let le : k ≤ most negative = grind (arith, nat_tests) in least_held (signed negative k) l n (signed_held negative k le) e
    at false u e = absurd (cc)

numeral_held : (negative : Bool) (w f : List ℕ) (n : Num) → numeral negative w f ≡ Some n → IsHeld n
numeral_held negative w f n h = at (nat_le (length f) 18) h
  where
    at : (y : Bool) → (if y then option_and_then (λ k. least (signed negative k) (length f)) (at_most (most negative) (Some (number (number 0 w) f))) else None) ≡ Some n → IsHeld n
    at true e = at_most_some negative (number (number 0 w) f) (length f) n e
    at false e = absurd (cc)

-- a number that is read is in least form, and has 64 bits
pub read_held : (s : List ℕ) (n : Num) → number_of s ≡ Some n → IsHeld n
read_held s n h = numeral_held (begins_with 45 s) (take (passing is_digit (drop (sign_length s) s)) (drop (sign_length s) s)) (without_zeros (drop (suc (whole_length s)) s)) n h

-- ---- the digits of the text

all_digits : (ds : List ℕ) → AreDigits ds → list_all is_digit ds ≡ true
all_digits [] h = refl
all_digits (d ∷ ds) h = and_from (is_digit d) (list_all is_digit ds) h.0 (all_digits ds h.1)

-- ---- a sign, digits, and a point with digits

abbrev minus : Bool → List ℕ
minus negative = if negative then 45 ∷ [] else []

abbrev dotted : List ℕ → List ℕ
dotted [] = []
dotted (b ∷ f) = 46 ∷ b ∷ f

abbrev text : Bool → List ℕ → List ℕ → List ℕ
text negative w f = minus negative ++ (w ++ dotted f)

blank_no_digit : (b : ℕ) → is_blank b ≡ true → is_digit b ≡ false
blank_no_digit b h = blank_case (λ k. is_digit k ≡ false) b h refl refl refl refl

digit_no_minus : (b : ℕ) → is_digit b ≡ true → (b == 45) ≡ false
digit_no_minus b h = grind (arith, nat_tests)

no_digit : (b : ℕ) (s : List ℕ) → is_digit b ≡ false → passing is_digit (b ∷ s) ≡ 0
unfolding passing
no_digit b s h = ap (λ z. if z then suc (passing is_digit s) else 0) h

no_digits : passing is_digit [] ≡ 0
unfolding passing
no_digits = refl

behind_digits : (f rest : List ℕ) → Apart rest → passing is_digit (dotted f ++ rest) ≡ 0
behind_digits [] [] h = no_digits
behind_digits [] (b ∷ s) h = no_digit b s (blank_no_digit b h)
behind_digits (d ∷ f) rest h = no_digit 46 (d ∷ (f ++ rest)) refl

digits_run : (w f rest : List ℕ) → list_all is_digit w ≡ true → Apart rest → passing is_digit (w ++ (dotted f ++ rest)) ≡ length w
digits_run w f rest h u = run_all is_digit w (dotted f ++ rest) h (behind_digits f rest u)

apart_digits : (rest : List ℕ) → Apart rest → passing is_digit rest ≡ 0
apart_digits [] h = no_digits
apart_digits (b ∷ s) h = no_digit b s (blank_no_digit b h)

point_is : (f rest : List ℕ) → list_all is_digit f ≡ true → Apart rest → point_length (dotted f ++ rest) ≡ length (dotted f)
point_is [] [] h u = refl
point_is [] (b ∷ s) h u = blank_case (λ k. point_length (k ∷ s) ≡ 0) b u refl refl refl refl
point_is (d ∷ f) rest h u =
    ap (λ z. if z then suc (passing is_digit (d ∷ (f ++ rest))) else 0) (and_parts (is_digit d) (list_all is_digit f) h).0 ∙ ap suc (run_all is_digit (d ∷ f) rest h (apart_digits rest u))

-- ---- how far it goes

-- a sign in front of digits, or none
signed_length : (negative : Bool) (d : ℕ) (v : List ℕ) → is_digit d ≡ true
    → number_length (minus negative ++ d ∷ v) ≡ length (minus negative) + (passing is_digit (d ∷ v) + point_length (drop (passing is_digit (d ∷ v)) (d ∷ v)))
signed_length true d v h =
    let n = passing is_digit (d ∷ v) in
    let one : 1 + n ≡ suc n = omega arith in
    ap (λ k. (1 + n) + point_length (drop k (45 ∷ d ∷ v))) one ∙ omega arith
signed_length false d v h =
    let n = passing is_digit (d ∷ v) in
    let none : 0 + n ≡ n = omega arith in
    ap (λ z. ((if z then 1 else 0) + passing is_digit (drop (if z then 1 else 0) (d ∷ v))) + point_length (drop ((if z then 1 else 0) + passing is_digit (drop (if z then 1 else 0) (d ∷ v))) (d ∷ v))) (digit_no_minus d h)
    ∙ ap (λ k. (0 + n) + point_length (drop k (d ∷ v))) none ∙ omega arith

signed_value : (negative : Bool) (d : ℕ) (v : List ℕ) → is_digit d ≡ true
    → number_of (minus negative ++ d ∷ v) ≡ numeral negative (take (passing is_digit (d ∷ v)) (d ∷ v)) (without_zeros (drop (suc (passing is_digit (d ∷ v))) (d ∷ v)))
signed_value true d v h =
    let n = passing is_digit (d ∷ v) in
    let one : suc (1 + n) ≡ suc (suc n) = omega arith in
    ap (λ k. numeral true (take n (d ∷ v)) (without_zeros (drop k (45 ∷ d ∷ v)))) one
signed_value false d v h =
    let n = passing is_digit (d ∷ v) in
    let none : suc (0 + n) ≡ suc n = omega arith in
    ap (λ z. numeral z (take (passing is_digit (drop (if z then 1 else 0) (d ∷ v))) (drop (if z then 1 else 0) (d ∷ v))) (without_zeros (drop (suc ((if z then 1 else 0) + passing is_digit (drop (if z then 1 else 0) (d ∷ v)))) (d ∷ v)))) (digit_no_minus d h)
    ∙ ap (λ k. numeral false (take n (d ∷ v)) (without_zeros (drop k (d ∷ v)))) none

drop_dot : (w f : List ℕ) → drop (suc (length w)) (w ++ dotted f) ≡ f
drop_dot [] [] = refl
drop_dot [] (b ∷ f) = refl
drop_dot (x ∷ w) f = drop_dot w f

text_goes : (negative : Bool) (d : ℕ) (w f rest : List ℕ) → list_all is_digit (d ∷ w) ≡ true → list_all is_digit f ≡ true → Apart rest → number_length (text negative (d ∷ w) f ++ rest) ≡ length (text negative (d ∷ w) f)
text_goes negative d w f rest h u r =
    let m = minus negative in
    let behind = dotted f ++ rest in
    let same : text negative (d ∷ w) f ++ rest ≡ m ++ ((d ∷ w) ++ behind) = append_assoc m ((d ∷ w) ++ dotted f) rest ∙ ap (λ l. m ++ l) (append_assoc (d ∷ w) (dotted f) rest) in
    ap number_length same ∙ signed_length negative d (w ++ behind) (and_parts (is_digit d) (list_all is_digit w) h).0
    ∙ ap (λ k. length m + (k + point_length (drop k ((d ∷ w) ++ behind)))) (digits_run (d ∷ w) f rest h r) ∙ ap (λ l. length m + (length (d ∷ w) + point_length l)) (drop-append_seam (d ∷ w) behind)
    ∙ ap (λ k. length m + (length (d ∷ w) + k)) (point_is f rest u r) ∙ omega (arith, length-append m ((d ∷ w) ++ dotted f), length-append (d ∷ w) (dotted f))

text_value : (negative : Bool) (d : ℕ) (w f : List ℕ) → list_all is_digit (d ∷ w) ≡ true → number_of (text negative (d ∷ w) f) ≡ numeral negative (d ∷ w) (without_zeros f)
text_value negative d w f h =
    let v = (d ∷ w) ++ dotted f in
    let digits : passing is_digit v ≡ length (d ∷ w) = ap (λ l. passing is_digit ((d ∷ w) ++ l)) (sym (append-nil (dotted f))) ∙ digits_run (d ∷ w) f [] h tt in
    signed_value negative d (w ++ dotted f) (and_parts (is_digit d) (list_all is_digit w) h).0 ∙ ap (λ k. numeral negative (take k v) (without_zeros (drop (suc k) v))) digits
    ∙ ap (λ l. numeral negative l (without_zeros (drop (suc (length (d ∷ w))) v))) (take-append_seam (d ∷ w) (dotted f)) ∙ ap (λ l. numeral negative (d ∷ w) (without_zeros l)) (drop_dot (d ∷ w) f)

-- ---- the text of a number

pointed_is : (places : ℕ) (ds : List ℕ) → places < length ds → pointed places ds ≡ take (length ds - places) ds ++ dotted (drop (length ds - places) ds)
pointed_is zero ds l =
    let all : length ds - 0 ≡ length ds = omega arith in
    let front : take (length ds - 0) ds ≡ ds = ap (λ k. take k ds) all ∙ take-length ds in
    let none : drop (length ds - 0) ds ≡ [] = ap (λ k. drop k ds) all ∙ drop-length ds in
    sym (ap (λ f. take (length ds - 0) ds ++ dotted f) none ∙ ap (λ w. w ++ []) front ∙ append-nil ds)
pointed_is (suc p) ds l = ap (λ f. take (length ds - suc p) ds ++ f) (dot_some (drop (length ds - suc p) ds) (omega (arith, length-drop (length ds - suc p) ds)))
  where
    dot_some : (f : List ℕ) → 0 < length f → 46 ∷ f ≡ dotted f
    dot_some [] h = absurd (omega arith)
    dot_some (b ∷ f) h = refl

abbrev is_negative : ℤ → Bool
is_negative (pos n) = false
is_negative (negsuc n) = true

-- the text of a number by its parts
pub record Shape (n : Num) : Type 0 where
  pub negative : Bool
  pub first : ℕ
  pub whole : List ℕ
  pub places : List ℕ
  pub is : number_text n ≡ text negative (first ∷ whole) places
  pub whole_digits : list_all is_digit (first ∷ whole) ≡ true
  pub places_digits : list_all is_digit places ≡ true
  pub value : numeral negative (first ∷ whole) (without_zeros places) ≡ Some n

small_digits : (z : ℤ) → IsI64 z → unsigned_abs z < 2 ^ 64
small_digits (pos n) h = omega (arith, ints, h.1)
small_digits (negsuc n) h = omega (arith, ints, h.0)

-- a last digit that is no zero is kept
kept : (x : ℕ) (f : List ℕ) → (number x f % 10 ≡ 0 → ⊥) → without_zeros f ≡ f
kept x [] h = refl
kept x (b ∷ []) h = at (b == 48) refl
  where
    at : (z : Bool) → (b == 48) ≡ z → (if z then [] else b ∷ []) ≡ b ∷ []
    at true e = let is : b ≡ 48 = eqb-true b 48 e in absurd (h (omega (arith, is)))
    at false e = refl
kept x (b ∷ c ∷ f) h = ap (zeros_behind b) (kept (10 * x + (b - 48)) (c ∷ f) h)

signed_is : (z : ℤ) → z ≡ signed (is_negative z) (unsigned_abs z)
signed_is (pos n) = refl
signed_is (negsuc n) = refl

sign_is : (z : ℤ) → sign_of z ≡ minus (is_negative z)
sign_is (pos n) = refl
sign_is (negsuc n) = refl

numeral_is : (negative : Bool) (w f : List ℕ) (n : Num) (k : ℕ) → IsHeld n → n.mantissa ≡ signed negative k → number (number 0 w) f ≡ k → length f ≡ n.scale → numeral negative w f ≡ Some n
numeral_is negative w f n k held is value long =
    let few : nat_le n.scale 18 ≡ true = let le : n.scale ≤ 18 = held.0.few in grind (arith, nat_tests) in
    let bound : k ≤ most negative = magnitude negative k (subst IsI64 is held.1) in
    let small : nat_le k (most negative) ≡ true = grind (arith, nat_tests) in
    ap (λ l. if nat_le l 18 then option_and_then (λ k. least (signed negative k) l) (at_most (most negative) (Some (number (number 0 w) f))) else None) long
    ∙ ap (λ z. if z then option_and_then (λ k. least (signed negative k) n.scale) (at_most (most negative) (Some (number (number 0 w) f))) else None) few
    ∙ ap (λ m. option_and_then (λ k. least (signed negative k) n.scale) (at_most (most negative) (Some m))) value
    ∙ ap (λ z. option_and_then (λ k. least (signed negative k) n.scale) (if z then Some k else None)) small
    ∙ ap (λ z. least z n.scale) (sym is)
    ∙ least_same n held.0

signed_rem : (negative : Bool) (k : ℕ) → k % 10 ≡ 0 → int_rem (signed negative k) (pos 10) ≡ pos 0
signed_rem true k e = omega (arith, ints)
signed_rem false k e = omega (arith, ints)

no_places : (f : List ℕ) → length f ≡ 0 → without_zeros f ≡ f
no_places [] h = refl
no_places (b ∷ f) h = absurd (omega arith)

places_kept : (negative : Bool) (w f : List ℕ) (n : Num) (k : ℕ) → IsHeld n → n.mantissa ≡ signed negative k → number (number 0 w) f ≡ k → length f ≡ n.scale → without_zeros f ≡ f
places_kept negative w f n k held is value long = at held.0.trimmed
  where
    differ : false ≡ true → ⊥
    differ e = cc

    at : ((n.scale ≡ 0) ⊎ (int_eq (int_rem n.mantissa (pos 10)) (pos 0) ≡ false)) → without_zeros f ≡ f
    at (inl z) = no_places f (long ∙ z)
    at (inr g) =
        kept (number 0 w) f (λ e. let r : k % 10 ≡ 0 = ap (λ x. x % 10) (sym value) ∙ e in
        differ (sym g ∙ (Decides-int_eq (int_rem n.mantissa (pos 10)) (pos 0)).1 (ap (λ z. int_rem z (pos 10)) is ∙ signed_rem negative k r)))

first_of : (w : List ℕ) → 0 < length w → (d : ℕ) × (ds : List ℕ) × (w ≡ d ∷ ds)
first_of [] h = absurd (omega arith)
first_of (d ∷ ds) h = (d, ds, refl)

-- the text of each number that is held
pub shape_of : (n : Num) → IsHeld n → Shape n
unfolding number_text
shape_of n held =
    let k = unsigned_abs n.mantissa in
    let s = n.scale in
    let ds = padded (s + 1) k in
    let w = take (length ds - s) ds in
    let f = drop (length ds - s) ds in
    let writes = padded_writes (s + 1) k (small_digits n.mantissa held.1) in
    let long : s < length ds = omega (arith, length-padded (s + 1) k) in
    let first = first_of w (omega (arith, length-take (length ds - s) ds, long)) in
    let places : length f ≡ s = length-drop (length ds - s) ds ∙ omega (arith, long) in
    let value : number (number 0 w) f ≡ k = sym (number-append 0 w f) ∙ ap (number 0) (take-append-drop (length ds - s) ds) ∙ writes.1 in
    let same = places_kept (is_negative n.mantissa) w f n k held (signed_is n.mantissa) value places in
    let whole : numeral (is_negative n.mantissa) w (without_zeros f) ≡ Some n = ap (numeral (is_negative n.mantissa) w) same ∙ numeral_is (is_negative n.mantissa) w f n k held (signed_is n.mantissa) value places in
    record {
      negative = is_negative n.mantissa;
      first = first.0;
      whole = first.1;
      places = f;
      is = ap (λ m. m ++ pointed s ds) (sign_is n.mantissa) ∙ ap (λ l. minus (is_negative n.mantissa) ++ l) (pointed_is s ds long ∙ ap (λ l. l ++ dotted f) first.2);
      whole_digits = subst (λ l. list_all is_digit l ≡ true) first.2 (all_digits w (take_digits (length ds - s) ds writes.0));
      places_digits = all_digits f (drop_digits (length ds - s) ds writes.0);
      value = subst (λ l. numeral (is_negative n.mantissa) l (without_zeros f) ≡ Some n) first.2 whole;
    }

-- how the lexer reads a text as a number
pub record Lexes (n : Num) (rest text : List ℕ) : Type 0 where
  pub first : ℕ
  pub more : List ℕ
  pub is : text ≡ first ∷ more
  pub no_letter : is_letter first ≡ false
  pub begins : begins_number (text ++ rest) ≡ true
  pub goes : number_length (text ++ rest) ≡ length text
  pub value : number_of text ≡ Some n
  pub starts : (is_digit first || first == 45) ≡ true

no_letter_digit : (d : ℕ) → is_digit d ≡ true → is_letter d ≡ false
no_letter_digit d h = grind (arith, nat_tests)

begins_plain : (d : ℕ) (s : List ℕ) → is_digit d ≡ true → begins_number (d ∷ s) ≡ true
begins_plain d s h = ap (λ z. begins_digit (drop (if z then 1 else 0) (d ∷ s))) (digit_no_minus d h) ∙ h

lexes : (n : Num) (negative : Bool) (d : ℕ) (w f rest : List ℕ) → list_all is_digit (d ∷ w) ≡ true → number_length (text negative (d ∷ w) f ++ rest) ≡ length (text negative (d ∷ w) f) → number_of (text negative (d ∷ w) f) ≡ Some n → Lexes n rest (text negative (d ∷ w) f)
lexes n true d w f rest h goes value = record { first = 45; more = (d ∷ w) ++ dotted f; is = refl; no_letter = refl; begins = (and_parts (is_digit d) (list_all is_digit w) h).0; goes = goes; value = value; starts = refl }
lexes n false d w f rest h goes value =
    let digit = (and_parts (is_digit d) (list_all is_digit w) h).0 in
    record { first = d; more = w ++ dotted f; is = refl; no_letter = no_letter_digit d digit; begins = begins_plain d ((w ++ dotted f) ++ rest) digit; goes = goes; value = value; starts = ap (λ z. z || d == 45) digit }

pub number_lexes : (n : Num) (rest : List ℕ) → IsHeld n → Apart rest → Lexes n rest (number_text n)
number_lexes n rest held apart =
    let s = shape_of n held in
    subst (Lexes n rest) (sym s.is)
    (lexes n s.negative s.first s.whole s.places rest s.whole_digits (text_goes s.negative s.first s.whole s.places rest s.whole_digits s.places_digits apart) (text_value s.negative s.first s.whole s.places s.whole_digits ∙ s.value))

-- ---- a number that is read has no quote in it

plain_both : (a b : ℕ) (s : List ℕ) → ArePlain (take a s) → ArePlain (take b (drop a s)) → ArePlain (take (a + b) s)
plain_both zero b s h u = let e : b ≡ 0 + b = omega arith in subst (λ (k : ℕ). ArePlain (take k s)) e u
plain_both (suc a) b [] h u = let e : suc (a + b) ≡ suc a + b = omega arith in subst (λ (k : ℕ). ArePlain (take k [])) e tt
plain_both (suc a) b (x ∷ s) h u = let e : suc (a + b) ≡ suc a + b = omega arith in subst (λ (k : ℕ). ArePlain (take k (x ∷ s))) e (h.0, plain_both a b s h.1 u)

digit_plain : (b : ℕ) → is_digit b ≡ true → is_plain b ≡ true
digit_plain b h = grind (arith, nat_tests)

all_plain : (s : List ℕ) → list_all is_digit s ≡ true → ArePlain s
all_plain [] h = tt
all_plain (b ∷ s) h = (digit_plain b (and_parts (is_digit b) (list_all is_digit s) h).0, all_plain s (and_parts (is_digit b) (list_all is_digit s) h).1)

digits_plain : (s : List ℕ) → ArePlain (take (passing is_digit s) s)
digits_plain s = all_plain (take (passing is_digit s) s) (run_passes is_digit s)

sign_plain : (s : List ℕ) → ArePlain (take (sign_length s) s)
sign_plain [] = at (begins_with 45 [])
  where
    at : (z : Bool) → ArePlain (take (if z then 1 else 0) [])
    at true = tt
    at false = tt
sign_plain (b ∷ s) = at (b == 45) refl
  where
    at : (z : Bool) → (b == 45) ≡ z → ArePlain (take (if z then 1 else 0) (b ∷ s))
    at true e = (ap is_plain (eqb-true b 45 e), tt)
    at false e = tt

point_plain : (s : List ℕ) → ArePlain (take (point_length s) s)
point_plain [] = tt
point_plain (b ∷ s) = at (b == 46 && begins_digit s) refl
  where
    at : (z : Bool) → (b == 46 && begins_digit s) ≡ z → ArePlain (take (if z then suc (passing is_digit s) else 0) (b ∷ s))
    at true e = (ap is_plain (eqb-true b 46 (and_parts (b == 46) (begins_digit s) e).0), digits_plain s)
    at false e = tt

pub number_plain : (s : List ℕ) → ArePlain (take (number_length s) s)
number_plain s =
    plain_both (whole_length s) (point_length (drop (whole_length s) s)) s
    (plain_both (sign_length s) (passing is_digit (drop (sign_length s) s)) s (sign_plain s) (digits_plain (drop (sign_length s) s))) (point_plain (drop (whole_length s) s))
