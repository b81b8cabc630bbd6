-- What the parts of a number's text are, and that a text which has such parts is a number of the grammar.
use Rattle.std.proofs.Common.{◌≡◌, ℕ, ◌<◌, ◌==◌, ◌||◌, not, Bool, true, false, if◌then◌else◌, List, [], ◌∷◌, ◌++◌, length, Option, Some, None, option_map, option_and_then, refl, sym, ap, subst, ◌∙◌, arith, rules, inl, inr, ◌⊎◌, eqb-true}
use Rattle.std.proofs.lemmas.Option.{same_Some, some_pair_parts}
use Rattle.std.specs.Prelude.{⊤}
use Rattle.std.proofs.lemmas.Bool.Decides.{nat_tests}
use Rattle.std.proofs.lemmas.List.{append-nil}
use Rattle.event_tree.specs.Number.{Num}
use Rattle.event_tree.specs.NumberTexts.{Decimal, StandsFor, NumberReads, is_digit, AreDigits, digits_front, digits_behind, split_minus, split_sign, is_whole, some_digits, fraction_of, only_digits, exponent_of, decimal_behind, decimal_of}
use Rattle.event_tree.proofs.DigitRuns.{front_are_digits}
use Rattle.event_json.specs.Grammar as g
use Rattle.event_json.proofs.Tests.{bool_cases}
use Rattle.event_json.proofs.Only.{digit_bounds}
use Rattle.event_json.proofs.WrittenNumbers.{front_all, behind_all, same_digits}
use Rattle.event_json.specs.NumberGrammar.{behind_first, is_negative, without_sign, parts_of, IsNumberText}

-- ---- digits

from_grammar : (ds : List ℕ) → g.AreDigits ds → AreDigits ds
from_grammar [] h = tt
from_grammar (d ∷ ds) h = (h.0, from_grammar ds h.1)

-- no digit stands in front
abbrev Ends : List ℕ → Type 0
Ends [] = ⊤
Ends (b ∷ bs) = is_digit b ≡ false

front_is : (ds rest : List ℕ) → AreDigits ds → Ends rest → digits_front (ds ++ rest) ≡ ds
front_is [] [] a e = refl
front_is [] (b ∷ bs) a e = rw e refl
front_is (d ∷ ds) rest a e = rw a.0 (ap (λ (ys : List ℕ). d ∷ ys) (front_is ds rest a.1 e))

behind_is : (ds rest : List ℕ) → AreDigits ds → Ends rest → digits_behind (ds ++ rest) ≡ rest
behind_is [] [] a e = refl
behind_is [] (b ∷ bs) a e = rw e refl
behind_is (d ∷ ds) rest a e = rw a.0 (behind_is ds rest a.1 e)

front_behind : (bs : List ℕ) → bs ≡ digits_front bs ++ digits_behind bs
front_behind [] = refl
front_behind (b ∷ bs) = bool_cases (is_digit b) (λ e. rw e (ap (λ (ys : List ℕ). b ∷ ys) (front_behind bs))) (λ e. rw e refl)

none_left : (ds : List ℕ) → (length ds == 0) ≡ true → ds ≡ []
none_left [] e = refl
none_left (d ∷ ds) e = absurd (search (e, rules))

some_left : (ds : List ℕ) → (length ds == 0) ≡ false → 0 < length ds
some_left [] e = absurd (search (e, rules))
some_left (d ∷ ds) e = omega arith

not_none : (ds : List ℕ) → 0 < length ds → (length ds == 0) ≡ false
not_none ds some = grind (arith, nat_tests)

-- ---- from the grammar to the parts

whole_digits : (w : List ℕ) → g.IsWhole w → AreDigits w
whole_digits [] h = absurd h
whole_digits (b ∷ bs) (inl h) = (grind (arith, nat_tests, h.0), subst AreDigits (sym h.1) tt)
whole_digits (b ∷ bs) (inr h) = (grind (arith, nat_tests, h.0, h.1), from_grammar bs h.2)

whole_is : (w : List ℕ) → g.IsWhole w → is_whole w ≡ true
whole_is [] h = absurd h
whole_is (b ∷ bs) (inl h) = ap (λ (ys : List ℕ). is_whole (b ∷ ys)) h.1
whole_is (b ∷ bs) (inr h) = let t : (b == 48) ≡ false = grind (arith, nat_tests, h.0) in rw (t, not_none (b ∷ bs) (omega arith)) (last (length (b ∷ bs) == 1))
  where
    last : (t : Bool) → (t || true) ≡ true
    last true = refl
    last false = refl

exponent_ends : (e : List ℕ) → g.IsExponent e → Ends e
exponent_ends [] h = tt
exponent_ends (b ∷ bs) h = elim h.0 [ inl e ↦ ap is_digit e | inr e ↦ ap is_digit e ]

fraction_ends : (f e : List ℕ) → g.IsFraction f → g.IsExponent e → Ends (f ++ e)
fraction_ends [] e h k = exponent_ends e k
fraction_ends (b ∷ bs) e h k = ap is_digit h.0

no_fraction : (e : List ℕ) → g.IsExponent e → fraction_of e ≡ Some ([], e)
no_fraction [] h = refl
no_fraction (b ∷ bs) h = let t : (b == 46) ≡ false = elim h.0 [ inl e ↦ ap (λ x. x == 46) e | inr e ↦ ap (λ x. x == 46) e ] in rw t refl

fraction_is : (f e : List ℕ) → g.IsFraction f → g.IsExponent e → fraction_of (f ++ e) ≡ Some (behind_first f, e)
fraction_is [] e h k = no_fraction e k
fraction_is (b ∷ bs) e h k =
    let t : (b == 46) ≡ true = ap (λ x. x == 46) h.0 in
    let a = from_grammar bs h.1.1 in
    let ends = exponent_ends e k in
    rw t (ap (λ (ys : List ℕ). some_digits ys (digits_behind (bs ++ e))) (front_is bs e a ends) ∙ ap (some_digits bs) (behind_is bs e a ends) ∙ (rw (not_none bs h.1.0) refl))

only_all : (lower : Bool) (ds : List ℕ) → g.AreSomeDigits ds → only_digits lower (digits_front ds) (digits_behind ds) ≡ Some (lower, ds)
only_all lower ds h = let a = from_grammar ds h.1 in
    ap (λ (ys : List ℕ). only_digits lower ys (digits_behind ds)) (front_all ds a) ∙ ap (only_digits lower ds) (behind_all ds a) ∙ (rw (not_none ds h.0) refl)

abbrev power : List ℕ → Option (Bool × List ℕ)
power bs = only_digits (split_sign bs).0 (digits_front (split_sign bs).1) (digits_behind (split_sign bs).1)

power_is : (p : List ℕ) → g.IsPower p → power p ≡ Some (is_negative p, without_sign p)
power_is [] h = absurd h
power_is (c ∷ cs) (inl h) = elim h.0 [
  | inl e ↦ subst (λ x. power (x ∷ cs) ≡ Some (is_negative (x ∷ cs), without_sign (x ∷ cs))) (sym e) (only_all false cs h.1)
  | inr e ↦ subst (λ x. power (x ∷ cs) ≡ Some (is_negative (x ∷ cs), without_sign (x ∷ cs))) (sym e) (only_all true cs h.1)
]
power_is (c ∷ cs) (inr h) =
    let plus : (c == 43) ≡ false = grind (arith, nat_tests, h.1.0) in
    let minus : (c == 45) ≡ false = grind (arith, nat_tests, h.1.0) in
    rw (plus, minus) (only_all false (c ∷ cs) h)

exponent_is : (e : List ℕ) → g.IsExponent e → exponent_of e ≡ Some (is_negative (behind_first e), without_sign (behind_first e))
exponent_is [] h = refl
exponent_is (b ∷ bs) h = let t : (b == 101 || b == 69) ≡ true = elim h.0 [ inl e ↦ ap (λ x. x == 101 || x == 69) e | inr e ↦ ap (λ x. x == 101 || x == 69) e ] in rw t (power_is bs h.1)

abbrev decimal_with : Bool → List ℕ → List ℕ → Bool × List ℕ → Decimal
decimal_with negative w f e = record { negative = negative; whole = w; fraction = f; lower = e.0; exponent = e.1 }

behind_sign : (negative : Bool) (w f e : List ℕ) → g.IsWhole w → g.IsFraction f → g.IsExponent e
    → decimal_behind negative (w ++ (f ++ e)) ≡ Some (decimal_with negative w (behind_first f) (is_negative (behind_first e), without_sign (behind_first e)))
behind_sign negative w f e whole fraction exponent =
    let a = whole_digits w whole in
    let ends = fraction_ends f e fraction exponent in
    let front = front_is w (f ++ e) a ends in
    let rest = behind_is w (f ++ e) a ends in
    rw (front, rest, whole_is w whole, fraction_is f e fraction exponent, exponent_is e exponent) refl

unsigned : (w rest : List ℕ) → g.IsWhole w → split_minus (w ++ rest) ≡ (false, w ++ rest)
unsigned [] rest h = absurd h
unsigned (b ∷ bs) rest h = let a = (whole_digits (b ∷ bs) h).0 in let t : (b == 45) ≡ false = grind (arith, nat_tests, a) in rw t refl

pub parts_written : (x : g.Number) → g.IsNumber x → decimal_of (g.number_bytes x) ≡ Some (parts_of x)
parts_written x is = elim is.minus [
  | inl e ↦ subst (λ m. decimal_of (m ++ (x.whole ++ (x.fraction ++ x.exponent))) ≡ Some (decimal_with (is_negative m) x.whole (behind_first x.fraction) (is_negative (behind_first x.exponent), without_sign (behind_first x.exponent)))) (sym e)
      (ap (λ (p : Bool × List ℕ). decimal_behind p.0 p.1) (unsigned x.whole (x.fraction ++ x.exponent) is.whole) ∙ behind_sign false x.whole x.fraction x.exponent is.whole is.fraction is.exponent)
  | inr e ↦ subst (λ m. decimal_of (m ++ (x.whole ++ (x.fraction ++ x.exponent))) ≡ Some (decimal_with (is_negative m) x.whole (behind_first x.fraction) (is_negative (behind_first x.exponent), without_sign (behind_first x.exponent)))) (sym e)
      (behind_sign true x.whole x.fraction x.exponent is.whole is.fraction is.exponent)
]

-- ---- from the parts to the grammar

no_whole : is_whole [] ≡ true → ⊥
no_whole h = search (h, rules)

zero_alone : (b c : ℕ) (ds : List ℕ) → is_whole (b ∷ c ∷ ds) ≡ true → (b == 48) ≡ true → ⊥
zero_alone b c ds h e = let k : (length (b ∷ c ∷ ds) == 1) ≡ false = grind (arith, nat_tests) in
    let n : (length (b ∷ c ∷ ds) == 0) ≡ false = grind (arith, nat_tests) in search (rw (n, k, e) at h, rules)

whole_from : (w : List ℕ) → AreDigits w → is_whole w ≡ true → g.IsWhole w
whole_from [] a h = absurd (no_whole h)
whole_from (b ∷ []) a h = bool_cases (b == 48) (λ t. inl (eqb-true b 48 t, refl)) (λ t. let d = digit_bounds b a.0 in inr (grind (arith, nat_tests), d.1, tt))
whole_from (b ∷ c ∷ ds) a h = bool_cases (b == 48) (λ t. absurd (zero_alone b c ds h t)) (λ t. let d = digit_bounds b a.0 in inr (grind (arith, nat_tests), d.1, same_digits (c ∷ ds) a.1))

some_from : (ds rest : List ℕ) (f : List ℕ × List ℕ) → some_digits ds rest ≡ Some f → (0 < length ds) × (ds ≡ f.0) × (rest ≡ f.1)
some_from ds rest f h = by (length ds == 0) refl h
  where
    by : (t : Bool) → (length ds == 0) ≡ t → ◌≡◌ {A = Option (List ℕ × List ℕ)} (if t then None else Some (ds, rest)) (Some f) → (0 < length ds) × (ds ≡ f.0) × (rest ≡ f.1)
    by true e k = absurd (search (k, rules))
    by false e k = let s = some_pair_parts ds f.0 rest f.1 k in (some_left ds e, s.0, s.1)

-- the fraction in front of what is behind it
abbrev HasFraction : List ℕ → List ℕ × List ℕ → Type 0
HasFraction cs f = (part : List ℕ) × g.IsFraction part × (behind_first part ≡ f.0) × (cs ≡ part ++ f.1)

fraction_from : (cs : List ℕ) (f : List ℕ × List ℕ) → fraction_of cs ≡ Some f → HasFraction cs f
fraction_from [] f h = let s = some_pair_parts [] f.0 [] f.1 h in ([], tt, s.0, s.1)
fraction_from (b ∷ bs) f h = bool_cases (b == 46) (λ e. point e (rw e at h)) (λ e. none (rw e at h))
  where
    point : (b == 46) ≡ true → some_digits (digits_front bs) (digits_behind bs) ≡ Some f → HasFraction (b ∷ bs) f
    point e k = let s = some_from (digits_front bs) (digits_behind bs) f k in
        (b ∷ digits_front bs, (eqb-true b 46 e, (s.0, same_digits (digits_front bs) (front_are_digits bs))), s.1, ap (λ (ys : List ℕ). b ∷ ys) (front_behind bs ∙ ap (λ (ys : List ℕ). digits_front bs ++ ys) s.2))

    none : ◌≡◌ {A = Option (List ℕ × List ℕ)} (Some ([], b ∷ bs)) (Some f) → HasFraction (b ∷ bs) f
    none k = let s = some_pair_parts [] f.0 (b ∷ bs) f.1 k in ([], tt, s.0, s.1)

only_from : (lower : Bool) (u : List ℕ) (e : Bool × List ℕ) → only_digits lower (digits_front u) (digits_behind u) ≡ Some e → g.AreSomeDigits u × (lower ≡ e.0) × (u ≡ e.1)
only_from lower u e h = by (length (digits_front u) == 0) (length (digits_behind u) == 0) refl refl h
  where
    all : (length (digits_behind u) == 0) ≡ true → u ≡ digits_front u
    all k = front_behind u ∙ ap (λ (ys : List ℕ). digits_front u ++ ys) (none_left (digits_behind u) k) ∙ append-nil (digits_front u)

    by : (s t : Bool) → (length (digits_front u) == 0) ≡ s → (length (digits_behind u) == 0) ≡ t → ◌≡◌ {A = Option (Bool × List ℕ)} (if s || not t then None else Some (lower, digits_front u)) (Some e) → g.AreSomeDigits u × (lower ≡ e.0) × (u ≡ e.1)
    by true t f k m = absurd (search (m, rules))
    by false false f k m = absurd (search (m, rules))
    by false true f k m = let s = some_pair_parts lower e.0 (digits_front u) e.1 m in
        (subst g.AreSomeDigits (sym (all k)) (some_left (digits_front u) f, same_digits (digits_front u) (front_are_digits u)), s.0, all k ∙ s.1)

abbrev IsPowerOf : List ℕ → Bool × List ℕ → Type 0
IsPowerOf p e = g.IsPower p × (is_negative p ≡ e.0) × (without_sign p ≡ e.1)

power_from : (p : List ℕ) (e : Bool × List ℕ) → power p ≡ Some e → IsPowerOf p e
power_from [] e h = absurd (search (h, rules))
power_from (c ∷ cs) e h = bool_cases (c == 43) (λ t. plus t (rw t at h)) (λ t. bool_cases (c == 45) (λ m. minus t m (rw (t, m) at h)) (λ m. digits t m (rw (t, m) at h)))
  where
    plus : (c == 43) ≡ true → only_digits false (digits_front cs) (digits_behind cs) ≡ Some e → IsPowerOf (c ∷ cs) e
    plus t k = let o = only_from false cs e k in let m : (c == 45) ≡ false = grind (arith, nat_tests) in (inl (inl (eqb-true c 43 t), o.0), m ∙ o.1, (rw t o.2))

    minus : (c == 43) ≡ false → (c == 45) ≡ true → only_digits true (digits_front cs) (digits_behind cs) ≡ Some e → IsPowerOf (c ∷ cs) e
    minus t m k = let o = only_from true cs e k in (inl (inr (eqb-true c 45 m), o.0), m ∙ o.1, (rw (t, m) o.2))

    digits : (c == 43) ≡ false → (c == 45) ≡ false → only_digits false (digits_front (c ∷ cs)) (digits_behind (c ∷ cs)) ≡ Some e → IsPowerOf (c ∷ cs) e
    digits t m k = let o = only_from false (c ∷ cs) e k in (inr o.0, m ∙ o.1, (rw (t, m) o.2))

letter : (b : ℕ) → (b == 101 || b == 69) ≡ true → (b ≡ 101) ⊎ (b ≡ 69)
letter b h = bool_cases (b == 101) (λ t. inl (eqb-true b 101 t)) (λ t. inr (eqb-true b 69 (rw t at h)))

exponent_from : (cs : List ℕ) (e : Bool × List ℕ) → exponent_of cs ≡ Some e → g.IsExponent cs × (is_negative (behind_first cs) ≡ e.0) × (without_sign (behind_first cs) ≡ e.1)
exponent_from [] e h = let s = some_pair_parts false e.0 [] e.1 h in (tt, s.0, s.1)
exponent_from (b ∷ bs) e h = by (b == 101 || b == 69) refl h
  where
    by : (t : Bool) → (b == 101 || b == 69) ≡ t → ◌≡◌ {A = Option (Bool × List ℕ)} (if t then power bs else None) (Some e) → g.IsExponent (b ∷ bs) × (is_negative bs ≡ e.0) × (without_sign bs ≡ e.1)
    by true t k = let p = power_from bs e k in ((letter b t, p.0), p.1, p.2)
    by false t k = absurd (search (k, rules))

-- a text without its sign that has these parts
abbrev Parted : Bool → List ℕ → Decimal → Type 0
Parted negative bs d = (w : List ℕ) × (f : List ℕ) × (e : List ℕ) × g.IsWhole w × g.IsFraction f × g.IsExponent e × (bs ≡ w ++ (f ++ e))
    × (d ≡ decimal_with negative w (behind_first f) (is_negative (behind_first e), without_sign (behind_first e)))

module _ (negative : Bool) (bs : List ℕ) (d : Decimal) where
  with_exponent : (f : List ℕ × List ℕ) (o : Option (Bool × List ℕ)) → is_whole (digits_front bs) ≡ true → fraction_of (digits_behind bs) ≡ Some f → exponent_of f.1 ≡ o
      → option_map {U = Decimal} (λ e. decimal_with negative (digits_front bs) f.0 e) o ≡ Some d → Parted negative bs d
  with_exponent f None w i x h = absurd (search (h, rules))
  with_exponent f (Some e) w i x h =
      let fr = fraction_from (digits_behind bs) f i in
      let ex = exponent_from f.1 e x in (
        digits_front bs,
        fr.0,
        f.1,
        whole_from (digits_front bs) (front_are_digits bs) w,
        fr.1,
        ex.0,
        front_behind bs ∙ ap (λ (ys : List ℕ). digits_front bs ++ ys) fr.3,
        sym (same_Some (decimal_with negative (digits_front bs) f.0 e) d h)
            ∙ ap (λ (ys : List ℕ). decimal_with negative (digits_front bs) ys e) (sym fr.2)
            ∙ ap (λ (l : Bool). decimal_with negative (digits_front bs) (behind_first fr.0) (l, e.1)) (sym ex.1)
            ∙ ap (λ (ys : List ℕ). decimal_with negative (digits_front bs) (behind_first fr.0) (is_negative (behind_first f.1), ys)) (sym ex.2),
      )

  with_fraction : (o : Option (List ℕ × List ℕ)) → is_whole (digits_front bs) ≡ true → fraction_of (digits_behind bs) ≡ o
      → option_and_then {U = Decimal} (λ f. option_map {U = Decimal} (λ e. decimal_with negative (digits_front bs) f.0 e) (exponent_of f.1)) o ≡ Some d → Parted negative bs d
  with_fraction None w i h = absurd (search (h, rules))
  with_fraction (Some f) w i h = with_exponent f (exponent_of f.1) w i refl h

  with_whole : (t : Bool) → is_whole (digits_front bs) ≡ t
      → ◌≡◌ {A = Option Decimal} (if t then option_and_then {U = Decimal} (λ f. option_map {U = Decimal} (λ e. decimal_with negative (digits_front bs) f.0 e) (exponent_of f.1)) (fraction_of (digits_behind bs)) else None) (Some d) → Parted negative bs d
  with_whole true w h = with_fraction (fraction_of (digits_behind bs)) w refl h
  with_whole false w h = absurd (search (h, rules))

  unsigned_parted : decimal_behind negative bs ≡ Some d → Parted negative bs d
  unsigned_parted h = with_whole (is_whole (digits_front bs)) refl h

abbrev InGrammar : List ℕ → Decimal → Type 0
InGrammar text d = (x : g.Number) × g.IsNumber x × (text ≡ g.number_bytes x) × (d ≡ parts_of x)

signed_text : (minus bs : List ℕ) (d : Decimal) → g.IsMinus minus → Parted (is_negative minus) bs d → InGrammar (minus ++ bs) d
signed_text minus bs d m (w, f, e, iw, is_f, ie, text, parts) =
    (record { minus = minus; whole = w; fraction = f; exponent = e }, record { minus = m; whole = iw; fraction = is_f; exponent = ie }, ap (λ (ys : List ℕ). minus ++ ys) text, parts)

pub written_parts : (text : List ℕ) (d : Decimal) → decimal_of text ≡ Some d → InGrammar text d
written_parts [] d h = signed_text [] [] d (inl refl) (unsigned_parted false [] d h)
written_parts (b ∷ bs) d h = bool_cases (b == 45)
    (λ t. subst (λ (x : ℕ). InGrammar (x ∷ bs) d) (sym (eqb-true b 45 t)) (signed_text (45 ∷ []) bs d (inr refl) (unsigned_parted true bs d (rw t at h))))
    (λ t. signed_text [] (b ∷ bs) d (inl refl) (unsigned_parted false (b ∷ bs) d (rw t at h)))

-- ---- what is read

pub read_in_grammar : (r : Option Num) (text : List ℕ) → NumberReads r text → IsNumberText r text
read_in_grammar (Some n) text h = let p = written_parts text h.0 h.1 in (p.0, p.1, p.2, subst (StandsFor n) p.3 h.2)
read_in_grammar None text h = λ x is e n least fits stands. h (parts_of x) (ap decimal_of e ∙ parts_written x is) n least fits stands

pub grammar_is_read : (r : Option Num) (text : List ℕ) → IsNumberText r text → NumberReads r text
grammar_is_read (Some n) text (x, is, e, stands) = (parts_of x, ap decimal_of e ∙ parts_written x is, stands)
grammar_is_read None text h = λ d e n least fits stands. let p = written_parts text d e in h p.0 p.1 p.2 n least fits (subst (StandsFor n) p.3 stands)
