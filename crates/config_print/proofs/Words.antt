-- Words and selectors.
use Rattle.std.proofs.Common.{◌≡◌, ℕ, zero, suc, ◌+◌, ◌≤◌, ◌==◌, ◌&&◌, ◌||◌, not, List, [], ◌∷◌, ◌++◌, length, take, drop, Option, Some, None, Bool, true, false, if◌then◌else◌, refl, ap, sym, subst, ◌∙◌, arith, append_assoc}
use Rattle.std.specs.List.{list_all}
use Rattle.std.proofs.lemmas.Bool.Decides.{nat_tests}
use Rattle.std.proofs.lemmas.Bool.{eqb-true, not-true, and_parts, and_from}
use Rattle.std.proofs.Math.Seq.{take-append_seam, drop-append_seam}
use Rattle.std.proofs.lemmas.List.{append-nil, take-append-drop}
use Rattle.event_tree.specs.NumberTexts.{is_digit}
use Rattle.event_tree.specs.PathTexts.{bracketed}
use Rattle.config_lex.specs.Bytes.{passing, skip, is_blank, is_letter, is_in_word, is_in_part, part_length, begins_with}
use Rattle.config_lex.specs.Lexemes.{parts_at, parts_more, begins_literals}
use Rattle.config_lex.proofs.Lexing.{parts_on, parts_stop}

-- what stands behind a token: nothing, or a blank
abbrev pub Apart : List ℕ → Type 0
Apart [] = Unit {0}
Apart (b ∷ s) = is_blank b ≡ true

-- there are four blanks
pub blank_case : (P : ℕ → Type 0) (b : ℕ) → is_blank b ≡ true → P 32 → P 9 → P 13 → P 10 → P b
blank_case P b h p q r s = at32 (b == 32) refl h
  where
    to : (k : ℕ) → P k → (b == k) ≡ true → P b
    to k x e = subst P (sym (eqb-true b k e)) x

    at13 : (z : Bool) → (b == 13) ≡ z → (z || b == 10) ≡ true → P b
    at13 true e u = to 13 r e
    at13 false e u = to 10 s u

    at9 : (z : Bool) → (b == 9) ≡ z → (z || b == 13 || b == 10) ≡ true → P b
    at9 true e u = to 9 q e
    at9 false e u = at13 (b == 13) refl u

    at32 : (z : Bool) → (b == 32) ≡ z → (z || b == 9 || b == 13 || b == 10) ≡ true → P b
    at32 true e u = to 32 p e
    at32 false e u = at9 (b == 9) refl u

-- bytes that pass a test, up to one that doesn't
pub run_all : (test : ℕ → Bool) (s rest : List ℕ) → list_all test s ≡ true → passing test rest ≡ 0 → passing test (s ++ rest) ≡ length s
unfolding passing
run_all test [] rest h u = u
run_all test (b ∷ s) rest h u = ap (λ z. if z then suc (passing test (s ++ rest)) else 0) (and_parts (test b) (list_all test s) h).0 ∙ ap suc (run_all test s rest (and_parts (test b) (list_all test s) h).1 u)

-- and those in front do
pub run_passes : (test : ℕ → Bool) (s : List ℕ) → list_all test (take (passing test s) s) ≡ true
unfolding passing
run_passes test [] = refl
run_passes test (b ∷ s) = at (test b) refl (run_passes test s)
  where
    at : (z : Bool) → test b ≡ z → list_all test (take (passing test s) s) ≡ true → list_all test (take (if z then suc (passing test s) else 0) (b ∷ s)) ≡ true
    at true is again = and_from (test b) (list_all test (take (passing test s) s)) is again
    at false is again = refl

pub run_none : (test : ℕ → Bool) (b : ℕ) (s : List ℕ) → test b ≡ false → passing test (b ∷ s) ≡ 0
unfolding passing
run_none test b s h = ap (λ z. if z then suc (passing test s) else 0) h

pub run_empty : (test : ℕ → Bool) → passing test [] ≡ 0
unfolding passing
run_empty test = refl

blank_in_word : (dashes : Bool) (b : ℕ) → is_blank b ≡ true → is_in_word dashes b ≡ false
blank_in_word true b h = blank_case (λ k. is_in_word true k ≡ false) b h refl refl refl refl
blank_in_word false b h = blank_case (λ k. is_in_word false k ≡ false) b h refl refl refl refl

apart_word : (dashes : Bool) (rest : List ℕ) → Apart rest → passing (is_in_word dashes) rest ≡ 0
apart_word dashes [] h = run_empty (is_in_word dashes)
apart_word dashes (b ∷ s) h = run_none (is_in_word dashes) b s (blank_in_word dashes b h)

-- a word before a blank is read whole
pub word_run : (dashes : Bool) (s rest : List ℕ) → list_all (is_in_word dashes) s ≡ true → Apart rest → passing (is_in_word dashes) (s ++ rest) ≡ length s
word_run dashes s rest h u = run_all (is_in_word dashes) s rest h (apart_word dashes rest u)

pub letter_in_word : (dashes : Bool) (b : ℕ) → is_letter b ≡ true → is_in_word dashes b ≡ true
letter_in_word dashes b h = ap (λ z. z || is_digit b || (dashes && b == 45)) h

in_word_dashes : (b : ℕ) → is_in_word false b ≡ true → is_in_word true b ≡ true
in_word_dashes b h = at (is_letter b) (is_digit b) (b == 45) h
  where
    at : (l d m : Bool) → (l || d || (false && m)) ≡ true → (l || d || (true && m)) ≡ true
    at true d m h = refl
    at false true m h = refl
    at false false m h = absurd (cc)

pub in_word_more : (s : List ℕ) → list_all (is_in_word false) s ≡ true → list_all (is_in_word true) s ≡ true
in_word_more [] h = refl
in_word_more (b ∷ s) h =
    and_from (is_in_word true b) (list_all (is_in_word true) s) (in_word_dashes b (and_parts (is_in_word false b) (list_all (is_in_word false) s) h).0) (in_word_more s (and_parts (is_in_word false b) (list_all (is_in_word false) s) h).1)

-- parts of a selector
abbrev pub PartFits : List ℕ → Type 0
PartFits p = (list_all is_in_part p ≡ true) × ((length p == 0) ≡ false)

abbrev pub PartsFit : List (List ℕ) → Type 0
PartsFit [] = Unit {0}
PartsFit (p ∷ ps) = PartFits p × PartsFit ps

part_run : (p r : List ℕ) → list_all is_in_part p ≡ true → passing is_in_part (p ++ 93 ∷ r) ≡ length p
part_run p r h = run_all is_in_part p (93 ∷ r) h (run_none is_in_part 93 r refl)

pub part_is : (p r : List ℕ) → PartFits p → part_length (91 ∷ (p ++ 93 ∷ r)) ≡ Some (length p)
part_is p r h =
    ap (λ k. if not (k == 0) && begins_with 93 (drop k (p ++ 93 ∷ r)) then Some k else None) (part_run p r h.0)
    ∙ ap (λ z. if not z && begins_with 93 (drop (length p) (p ++ 93 ∷ r)) then Some (length p) else None) h.1
    ∙ ap (λ s. if begins_with 93 s then Some (length p) else None) (drop-append_seam p (93 ∷ r))

drop_past_end : (p r : List ℕ) → drop (length p + 1) (p ++ 93 ∷ r) ≡ r
drop_past_end [] r = refl
drop_past_end (b ∷ p) r = let e : suc (length p) + 1 ≡ suc (length p + 1) = omega arith in ap (λ k. drop k (b ∷ (p ++ 93 ∷ r))) e ∙ drop_past_end p r

pub drop_part : (p r : List ℕ) → drop (length p + 2) (91 ∷ (p ++ 93 ∷ r)) ≡ r
drop_part p r = let e : length p + 2 ≡ suc (length p + 1) = omega arith in ap (λ k. drop k (91 ∷ (p ++ 93 ∷ r))) e ∙ drop_past_end p r

pub no_part : (rest : List ℕ) → Apart rest → part_length rest ≡ None
no_part [] h = refl
no_part (b ∷ s) h = blank_case (λ k. part_length (k ∷ s) ≡ None) b h refl refl refl refl

-- the parts that are written are read
pub parts_again : (n : ℕ) (front ps : List (List ℕ)) (rest : List ℕ) → length ps ≤ n → PartsFit ps → part_length rest ≡ None → parts_at n front (bracketed ps ++ rest) ≡ front ++ ps
parts_again n front [] rest l h u = parts_stop n front rest u ∙ sym (append-nil front)
parts_again zero front (p ∷ ps) rest l h u = absurd (omega arith)
parts_again (suc n) front (p ∷ ps) rest l h u =
    let r = bracketed ps ++ rest in
    ap (λ s. parts_at (suc n) front (91 ∷ s)) (append_assoc p (93 ∷ bracketed ps) rest)
    ∙ parts_on n (length p) front (91 ∷ (p ++ 93 ∷ r)) (part_is p r h.0)
    ∙ ap (λ q. parts_at n (front ++ q ∷ []) (drop (length p + 2) (91 ∷ (p ++ 93 ∷ r)))) (take-append_seam p (93 ∷ r))
    ∙ ap (λ s. parts_at n (front ++ p ∷ []) s) (drop_part p r)
    ∙ parts_again n (front ++ p ∷ []) ps rest (omega arith) h.1 u
    ∙ append_assoc front (p ∷ []) ps

-- the first byte that is no blank begins no literal, and is there
abbrev pub bare_start : List ℕ → Bool
bare_start [] = false
bare_start (b ∷ p) = if is_blank b then bare_start p else not (begins_literals (b ∷ []))

not_not : (z : Bool) → z ≡ not (not z)
not_not true = refl
not_not false = refl

pub opens_list : (p r : List ℕ) → list_all is_in_part p ≡ true → begins_literals (drop (skip false (p ++ 93 ∷ r)) (p ++ 93 ∷ r)) ≡ not (bare_start p)
unfolding skip
opens_list [] r h = refl
opens_list (b ∷ p) r h = at (is_blank b) (opens_list p r (and_parts (is_in_part b) (list_all is_in_part p) h).1)
  where
    no_comment : (b == 35) ≡ false
    no_comment = let u : is_in_part b ≡ true = (and_parts (is_in_part b) (list_all is_in_part p) h).0 in grind (arith, nat_tests)

    at : (z : Bool) → begins_literals (drop (skip false (p ++ 93 ∷ r)) (p ++ 93 ∷ r)) ≡ not (bare_start p)
        → begins_literals (drop (if z then suc (skip false (p ++ 93 ∷ r)) else (if b == 35 then suc (skip true (p ++ 93 ∷ r)) else 0)) (b ∷ (p ++ 93 ∷ r))) ≡ not (if z then bare_start p else not (begins_literals (b ∷ [])))
    at true again = again
    at false again = ap (λ z. begins_literals (drop (if z then suc (skip true (p ++ 93 ∷ r)) else 0) (b ∷ (p ++ 93 ∷ r)))) no_comment ∙ not_not (begins_literals (b ∷ []))

-- what the lexer takes as a part
pub record PartRead (s : List ℕ) (k : ℕ) : Type 0 where
  pub rest : List ℕ
  pub whole : s ≡ 91 ∷ (take k (drop 1 s) ++ 93 ∷ rest)
  pub fits : PartFits (take k (drop 1 s))

pub run_length : (test : ℕ → Bool) (s : List ℕ) → length (take (passing test s) s) ≡ passing test s
unfolding passing
run_length test [] = refl
run_length test (b ∷ s) = at (test b) (run_length test s)
  where
    at : (z : Bool) → length (take (passing test s) s) ≡ passing test s → length (take (if z then suc (passing test s) else 0) (b ∷ s)) ≡ (if z then suc (passing test s) else 0)
    at true again = ap suc again
    at false again = refl

pub begins_is : (c : ℕ) (s : List ℕ) → begins_with c s ≡ true → s ≡ c ∷ drop 1 s
begins_is c [] h = absurd (cc)
begins_is c (b ∷ s) h = ap (λ k. k ∷ s) (eqb-true b c h)

pub part_from : (s : List ℕ) (k : ℕ) → part_length s ≡ Some k → PartRead s k
part_from [] k h = absurd (cc)
part_from (b ∷ s) k h = at (b == 91 && not (passing is_in_part s == 0) && begins_with 93 (drop (passing is_in_part s) s)) refl h
  where
    at : (z : Bool) → (b == 91 && not (passing is_in_part s == 0) && begins_with 93 (drop (passing is_in_part s) s)) ≡ z → (if z then Some (passing is_in_part s) else None) ≡ Some k → PartRead (b ∷ s) k
    at false is e = absurd (cc)
    at true is e =
        let m = passing is_in_part s in
        let same : m ≡ k = cc in
        let some = not-true (m == 0) (and_parts (b == 91) (not (m == 0)) (and_parts (b == 91 && not (m == 0)) (begins_with 93 (drop m s)) is).0).1 in
        let closed = begins_is 93 (drop m s) (and_parts (b == 91 && not (m == 0)) (begins_with 93 (drop m s)) is).1 in
        let whole : b ∷ s ≡ 91 ∷ (take m s ++ 93 ∷ drop 1 (drop m s)) =
        ap (λ c. c ∷ s) (eqb-true b 91 (and_parts (b == 91) (not (m == 0)) (and_parts (b == 91 && not (m == 0)) (begins_with 93 (drop m s)) is).0).0) ∙ ap (λ r. 91 ∷ r) (sym (take-append-drop m s) ∙ ap (λ r. take m s ++ r) closed) in
        let fits : PartFits (take m s) = (run_passes is_in_part s, ap (λ n. n == 0) (run_length is_in_part s) ∙ some) in
        subst (λ (n : ℕ). PartRead (b ∷ s) n) same (record { rest = drop 1 (drop m s); whole = whole; fits = fits })

-- and as a selector
abbrev pub SelectorFits : List (List ℕ) → Type 0
SelectorFits [] = ⊥
SelectorFits (p ∷ ps) = PartsFit (p ∷ ps) × (bare_start p ≡ true)

parts_end : (front : List (List ℕ)) (p : List ℕ) → PartsFit front → PartFits p → PartsFit (front ++ p ∷ [])
parts_end [] p h u = (u, tt)
parts_end (q ∷ front) p h u = (h.0, parts_end front p h.1 u)

parts_fit : (n : ℕ) (front : List (List ℕ)) (s : List ℕ) → PartsFit front → PartsFit (parts_at n front s)
unfolding parts_at
parts_fit zero front s h = h
parts_fit (suc n) front s h = at (part_length s) refl (λ f r u. parts_fit n f r u)
  where
    at : (o : Option ℕ) → part_length s ≡ o → ((f : List (List ℕ)) (r : List ℕ) → PartsFit f → PartsFit (parts_at n f r)) → PartsFit (parts_more o front s (λ f r. parts_at n f r))
    at None is again = h
    at (Some k) is again = again (front ++ take k (drop 1 s) ∷ []) (drop (k + 2) s) (parts_end front (take k (drop 1 s)) h (part_from s k is).fits)

first_kept : (n : ℕ) (p : List ℕ) (front : List (List ℕ)) (s : List ℕ) → (ps : List (List ℕ)) × (parts_at n (p ∷ front) s ≡ p ∷ ps)
unfolding parts_at
first_kept zero p front s = (front, refl)
first_kept (suc n) p front s = at (part_length s) (λ f r. first_kept n p f r)
  where
    at : (o : Option ℕ) → ((f : List (List ℕ)) (r : List ℕ) → (ps : List (List ℕ)) × (parts_at n (p ∷ f) r ≡ p ∷ ps)) → (ps : List (List ℕ)) × (parts_more o (p ∷ front) s (λ f r. parts_at n f r) ≡ p ∷ ps)
    at None again = (front, refl)
    at (Some k) again = again (front ++ take k (drop 1 s) ∷ []) (drop (k + 2) s)

first_same : (q : List ℕ) (qs : List (List ℕ)) (p : List ℕ) (ps : List (List ℕ)) → q ∷ qs ≡ p ∷ ps → q ≡ p
first_same q qs p ps e = cc

-- what the lexer takes as a selector
pub selector_from : (n : ℕ) (s : List ℕ) (p : List ℕ) (ps : List (List ℕ)) → parts_at n [] s ≡ p ∷ ps → begins_literals (drop (skip false (drop 1 s)) (drop 1 s)) ≡ false → SelectorFits (p ∷ ps)
unfolding parts_at
selector_from zero s p ps h u = absurd (cc)
selector_from (suc n) s p ps h u = at (part_length s) refl h
  where
    all : PartsFit (p ∷ ps)
    all = subst PartsFit h (parts_fit (suc n) [] s tt)

    at : (o : Option ℕ) → part_length s ≡ o → parts_more o [] s (λ f r. parts_at n f r) ≡ p ∷ ps → SelectorFits (p ∷ ps)
    at None is e = absurd (cc)
    at (Some k) is e =
        let r = part_from s k is in
        let q = take k (drop 1 s) in
        let f = first_kept n q [] (drop (k + 2) s) in
        let same : q ≡ p = first_same q f.0 p ps (sym f.1 ∙ e) in
        let behind : drop 1 s ≡ q ++ 93 ∷ r.rest = ap (λ (x : List ℕ). drop 1 x) r.whole in
        let opens : not (bare_start q) ≡ false = sym (opens_list q r.rest r.fits.0) ∙ ap (λ (x : List ℕ). begins_literals (drop (skip false x) x)) (sym behind) ∙ u in
        (all, ap bare_start (sym same) ∙ not_not (bare_start q) ∙ ap not opens)
