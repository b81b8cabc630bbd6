-- Other blanks and comments between tokens change none of them.
use Rattle.std.proofs.Common.{◌≡◌, ℕ, zero, suc, ◌+◌, ◌≤◌, ◌<◌, ◌==◌, ◌&&◌, ◌||◌, ◌⊎◌, inl, inr, not, List, [], ◌∷◌, ◌++◌, length, take, drop, Option, Some, None, option_map, Bool, true, false, if◌then◌else◌, refl, ap, sym, subst, ◌∙◌, arith, append_assoc, length-append}
use Rattle.std.proofs.lemmas.Bool.{eqb-true, and_right, cond_both}
use Rattle.std.proofs.lemmas.List.{append-nil, length-drop, take-append-le}
use Rattle.std.proofs.Math.Seq.{take-append_seam, drop-append_seam}
use Rattle.event_tree.specs.NumberTexts.{is_digit}
use Rattle.event_tree.specs.PathTexts.{bracketed}
use Rattle.config_lex.specs.Bytes.{passing, skip, closing, unescaped, is_letter, is_in_word, is_in_part, begins_digit, begins_number, begins_with, sign_length, point_length, number_length, number_of, part_length}
use Rattle.config_lex.specs.Lexemes.{Found, start, after_token, word_token, word_at, number_at, quoted_at, regexp_at, bracket_at, selector_of, selector_length, parts_at, begins_literals, sign_at, double, single, longer, token_at}
use Rattle.config_lex.specs.declared.context.Context.{Context}
use Rattle.config_lex.specs.declared.token.Token.{Token}
use Rattle.config_lex.specs.declared.token.Token.TheVariants as t
use Rattle.config_lex.proofs.Lexing.{parts_on, parts_stop}
use Rattle.config_lex.proofs.Scans.{run_some, digits_some}
use Rattle.config_print.specs.Respaced.{IsInPlaceOf, IsRespaced, ends, stays, goes_on, GapsChangeNoToken}
use Rattle.config_print.proofs.Fit.{behind_letters, behind_numbers, behind_strings, behind_regexps}
use Rattle.config_print.proofs.Gaps.{Free, at_end, at_blank, at_comment, gap_free, end_free, Stops, free_stops, skip_gap, skip_end, scan_gap, scan_end, closes, closes_on, closes_here, has_comment, comment_closes, blanks_close, end_closes, gap_opens}
use Rattle.config_print.proofs.LaidTokens.{scan, scan_next, scanned, scan_nil, scan_token, tokens_scanned, begins, skip_solid, solid, bracket_there, parts_short, selector_long}
use Rattle.config_print.proofs.Words.{blank_case, letter_in_word, run_none, SelectorFits, selector_from, part_from, part_is, drop_part, parts_again, opens_list}

-- ---- a token has some bytes

-- the token that is found, and its length
abbrev count_of : Found → ℕ
count_of None = 0
count_of (Some p) = p.1

abbrev token_of : Found → Token
token_of None = t.Unreadable
token_of (Some p) = p.0

abbrev Some_found : Found → Type 0
Some_found None = Unit {0}
Some_found (Some p) = 1 ≤ p.1

some_of : {A : Type 0} (f : A → Token × ℕ) (o : Option A) → ((a : A) → 1 ≤ (f a).1) → Some_found (option_map f o)
some_of f None h = tt
some_of f (Some a) h = h a

some_selector : (parts : List (List ℕ)) → Some_found (selector_of parts)
some_selector [] = tt
some_selector (p ∷ ps) = omega arith

some_sign : (o q : Option Token) → Some_found (longer o q)
some_sign (Some y) q = omega arith
some_sign None (Some y) = omega arith
some_sign None None = tt

signs_some : (s : List ℕ) → Some_found (sign_at s)
signs_some [] = tt
signs_some (b ∷ []) = some_sign None (single b)
signs_some (b ∷ c ∷ s) = some_sign (double b c) (single b)

found_some : (x : Context) (s : List ℕ) → Some_found (token_at x s)
unfolding token_at
found_some x [] = tt
found_some x (b ∷ s) =
    cond_both (is_letter b) (word_at x.in_condition (b ∷ s)) (behind_letters x b s) Some_found (λ e. run_some (is_in_word (not x.in_condition)) (b ∷ s) b s refl (letter_in_word (not x.in_condition) b e))
    (λ e. cond_both (begins_number (b ∷ s)) (number_at (b ∷ s)) (behind_numbers x b s) Some_found
    (λ e. let d = digits_some (drop (sign_length (b ∷ s)) (b ∷ s)) e in some_of (λ value. (t.Number value (take (number_length (b ∷ s)) (b ∷ s)), number_length (b ∷ s))) (number_of (take (number_length (b ∷ s)) (b ∷ s))) (λ a. omega (arith, d)))
    (λ e. cond_both (b == 34 || b == 39) (quoted_at b s) (behind_strings x b s) Some_found (λ e. some_of (λ n. (t.Quoted (take n s), n + 2)) (closing b false s) (λ n. omega arith))
    (λ e. cond_both (b == 47) (regexp_at s) (behind_regexps x b s) Some_found (λ e. some_of (λ n. (t.Regexp (unescaped (take n s)), n + 2)) (closing 47 false s) (λ n. omega arith))
    (λ e. cond_both (b == 91) (bracket_at x.at_operand (b ∷ s)) (sign_at (b ∷ s)) Some_found
    (λ e. cond_both (x.at_operand && not (begins_literals (drop (1 + skip false s) (b ∷ s)))) (selector_of (parts_at (length (b ∷ s)) [] (b ∷ s))) (Some (t.OpenBracket, 1)) Some_found (λ e. some_selector (parts_at (length (b ∷ s)) [] (b ∷ s))) (λ e. omega arith))
    (λ e. signs_some (b ∷ s))))))

some_bytes : (x : Context) (w s : List ℕ) (y : Token) → token_at x (w ++ s) ≡ Some (y, length w) → 1 ≤ length w
some_bytes x w s y e = subst Some_found e (found_some x (w ++ s))

-- so that enough turns are enough
enough : (n m : ℕ) (x : Context) (s : List ℕ) → length s ≤ n → length s ≤ m → scan n x s ≡ scan m x s
unfolding scan
enough zero m x [] h u = sym (scan_nil m x)
enough zero m x (b ∷ s) h u = absurd (omega arith)
enough (suc n) zero x [] h u = scan_nil (suc n) x
enough (suc n) zero x (b ∷ s) h u = absurd (omega arith)
enough (suc n) (suc m) x s h u =
    by (drop (skip false s) s) (omega (arith, length-drop (skip false s) s, h)) (omega (arith, length-drop (skip false s) s, u)) (λ y r k l. enough n m y r k l)
  where
    one : (o : Found) (r : List ℕ) → Some_found o → length r ≤ suc n → length r ≤ suc m → ((y : Context) (q : List ℕ) → length q ≤ n → length q ≤ m → scan n y q ≡ scan m y q) → scanned o r x (λ y q. scan n y q) ≡ scanned o r x (λ y q. scan m y q)
    one None r f k l again = refl
    one (Some p) r f k l again = ap (λ ts. p.0 ∷ ts) (again (after_token x p.0) (drop p.1 r) (omega (arith, length-drop p.1 r, f, k)) (omega (arith, length-drop p.1 r, f, l)))

    by : (r : List ℕ) → length r ≤ suc n → length r ≤ suc m → ((y : Context) (q : List ℕ) → length q ≤ n → length q ≤ m → scan n y q ≡ scan m y q) → scan_next x r (λ y q. scan n y q) ≡ scan_next x r (λ y q. scan m y q)
    by [] k l again = refl
    by (b ∷ r) k l again = one (token_at x (b ∷ r)) (b ∷ r) (found_some x (b ∷ r)) k l again

-- ---- what stands behind a token, in the one text and the other

-- the second text is free, or is the first, or both begin with the same token
data Ahead : Context → List ℕ → List ℕ → Type 0 where
  free : {x : Context} {s u : List ℕ} → Free u → Ahead x s u
  same : {x : Context} {s u : List ℕ} → s ≡ u → Ahead x s u
  token : {x : Context} {s u : List ℕ} (c : ℕ) (w r q : List ℕ) (y : Token) → s ≡ c ∷ (w ++ r) → u ≡ c ∷ (w ++ q) → token_at x (c ∷ (w ++ r)) ≡ Some (y, suc (length w)) → IsRespaced (after_token x y) r q → Ahead x s u

ahead : (x : Context) (s u : List ℕ) → IsRespaced x s u → Ahead x s u
ahead x _ _ (ends {s} {t = u} e f) = free (end_free u f)
ahead x _ _ (stays old [] rest h) = same (ap (λ o. o ++ rest) (h.none.1 refl))
ahead x _ _ (stays old (b ∷ new) rest h) = free (gap_free (b ∷ new) rest h.is (λ e. absurd (cc)))
ahead x _ _ (goes_on old (b ∷ new) text s u y h e r) = free (gap_free (b ∷ new) (text ++ u) h.is (λ e. absurd (cc)))
ahead x _ _ (goes_on old [] [] s u y h e r) = absurd (omega (arith, some_bytes x [] s y e))
ahead x _ _ (goes_on old [] (c ∷ w) s u y h e r) = token c w s u y (ap (λ o. o ++ (c ∷ (w ++ s))) (h.none.1 refl)) refl e r

-- no byte passes a test in the second where none does in the first
no_run : (test : ℕ → Bool) (c : ℕ) (s : List ℕ) → passing test (c ∷ s) ≡ 0 → test c ≡ false
unfolding passing
no_run test c s h = by (test c) h
  where
    by : (z : Bool) → (if z then suc (passing test s) else 0) ≡ 0 → z ≡ false
    by true e = absurd (omega (arith, e))
    by false e = refl

runs : (test : ℕ → Bool) → Stops test → (x : Context) (s u : List ℕ) → Ahead x s u → passing test s ≡ 0 → passing test u ≡ 0
runs test h x s u (free f) e = free_stops test h u f
runs test h x s u (same i) e = subst (λ v. passing test v ≡ 0) i e
runs test h x s u (token c w r q y i j k l) e = ap (passing test) j ∙ run_none test c (w ++ q) (no_run test c (w ++ r) (ap (passing test) (sym i) ∙ e))

-- nor does a point with digits
not_point : (x : Context) (s : List ℕ) (p : Token × ℕ) → token_at x (46 ∷ s) ≡ Some p → ⊥
unfolding token_at
not_point x [] p e = absurd (cc)
not_point x (c ∷ s) p e = absurd (cc)

no_point : (b : ℕ) (s : List ℕ) → (b == 46) ≡ false → point_length (b ∷ s) ≡ 0
no_point b s h = ap (λ z. if z && begins_digit s then suc (passing is_digit s) else 0) h

points : (x : Context) (s u : List ℕ) → Ahead x s u → point_length s ≡ 0 → point_length u ≡ 0
points x s _ (free at_end) e = refl
points x s _ (free (at_blank {b} {s = v} f)) e = no_point b v (blank_case (λ k. (k == 46) ≡ false) b f refl refl refl refl)
points x s _ (free (at_comment {s = v})) e = no_point 35 v refl
points x s u (same i) e = subst (λ v. point_length v ≡ 0) i e
points x s u (token c w r q y i j k l) e = ap point_length j ∙ no_point c (w ++ q) (by (c == 46) refl)
  where
    by : (z : Bool) → (c == 46) ≡ z → z ≡ false
    by true h = absurd (not_point x (w ++ r) (y, suc (length w)) (ap (λ b. token_at x (b ∷ (w ++ r))) (sym (eqb-true c 46 h)) ∙ k))
    by false h = refl

-- the next byte that is neither blank nor in a comment is the same
literals : (x : Context) (s u : List ℕ) → IsRespaced x s u → begins_literals (drop (skip false s) s) ≡ begins_literals (drop (skip false u) u)
literals x _ _ (ends {s} {t = u} e f) = ap begins_literals (skip_end s e) ∙ sym (ap begins_literals (skip_end u f))
literals x _ _ (stays old new rest h) = ap begins_literals (skip_gap old rest h.was) ∙ sym (ap begins_literals (skip_gap new rest h.is))
literals x _ _ (goes_on old new [] s u y h e r) = absurd (omega (arith, some_bytes x [] s y e))
literals x _ _ (goes_on old new (c ∷ w) s u y h e r) =
    let first = begins x (c ∷ (w ++ s)) (y, suc (length w)) e in
    let is : c ∷ (w ++ s) ≡ first.first ∷ first.more = first.is in
    let one : first.first ≡ c = cc in
    let begun : solid c ≡ true = subst (λ b. solid b ≡ true) one first.solid_first in
    ap begins_literals (skip_gap old (c ∷ (w ++ s)) h.was) ∙ ap (λ k. begins_literals (drop k (c ∷ (w ++ s)))) (skip_solid c (w ++ s) begun)
    ∙ sym (ap begins_literals (skip_gap new (c ∷ (w ++ u)) h.is) ∙ ap (λ k. begins_literals (drop k (c ∷ (w ++ u)))) (skip_solid c (w ++ u) begun))

-- ---- a part of a selector behind a selector

other_comment : (old new : List ℕ) → IsInPlaceOf old new → has_comment new ≡ false → has_comment old ≡ false
other_comment old new h e = by (has_comment old) refl
  where
    by : (z : Bool) → has_comment old ≡ z → z ≡ false
    by true f = absurd (let g = h.comment f in cc)
    by false f = refl

gaps_close : (old new s u : List ℕ) → IsInPlaceOf old new → (closes s ≡ false → closes u ≡ false) → closes (old ++ s) ≡ false → closes (new ++ u) ≡ false
gaps_close old new s u h again e = by (has_comment new) refl
  where
    by : (z : Bool) → has_comment new ≡ z → closes (new ++ u) ≡ false
    by true f = comment_closes new u h.is f
    by false f = blanks_close new u h.is f ∙ again (sym (blanks_close old s h.was (other_comment old new h f)) ∙ e)

text_closes : (w s u : List ℕ) → (closes s ≡ false → closes u ≡ false) → closes (w ++ s) ≡ false → closes (w ++ u) ≡ false
text_closes [] s u again e = again e
text_closes (c ∷ w) s u again e = by (is_in_part c) refl (text_closes w s u again)
  where
    by : (z : Bool) → is_in_part c ≡ z → (closes (w ++ s) ≡ false → closes (w ++ u) ≡ false) → closes (c ∷ (w ++ u)) ≡ false
    by true h more = closes_on c (w ++ u) h ∙ more (sym (closes_on c (w ++ s) h) ∙ e)
    by false h more = closes_here c (w ++ u) h ∙ sym (closes_here c (w ++ s) h) ∙ e

never_closes : (x : Context) (s u : List ℕ) → IsRespaced x s u → closes s ≡ false → closes u ≡ false
never_closes x _ _ (ends {s} {t = u} e f) h = end_closes u f
never_closes x _ _ (stays old new rest k) h = gaps_close old new rest rest k (λ e. e) h
never_closes x _ _ (goes_on old new text s u y k e r) h = gaps_close old new (text ++ s) (text ++ u) k (text_closes text s u (never_closes (after_token x y) s u r)) h

opens : (old new s u : List ℕ) → IsInPlaceOf old new → (passing is_in_part s ≡ 0 → passing is_in_part u ≡ 0) → passing is_in_part (old ++ s) ≡ 0 → (passing is_in_part (new ++ u) ≡ 0) ⊎ (closes (new ++ u) ≡ false)
opens old [] s u h again e = inl (again (ap (λ o. passing is_in_part (o ++ s)) (sym (h.none.1 refl)) ∙ e))
opens old (b ∷ new) s u h again e =
    let some : old ≡ [] → ⊥ = λ i. let j : b ∷ new ≡ [] = h.none.0 i in absurd (cc) in
    inr (comment_closes (b ∷ new) u h.is (h.comment (gap_opens old s h.was some e)))

-- nothing, or no part, up to a `]`
no_part_in : (x : Context) (s u : List ℕ) → IsRespaced x s u → passing is_in_part s ≡ 0 → (passing is_in_part u ≡ 0) ⊎ (closes u ≡ false)
no_part_in x _ _ (ends {s} {t = u} e f) h = inr (end_closes u f)
no_part_in x _ _ (stays old new rest k) h = opens old new rest rest k (λ e. e) h
no_part_in x _ _ (goes_on old new [] s u y k e r) h = absurd (omega (arith, some_bytes x [] s y e))
no_part_in x _ _ (goes_on old new (c ∷ w) s u y k e r) h = opens old new (c ∷ (w ++ s)) (c ∷ (w ++ u)) k (λ i. run_none is_in_part c (w ++ u) (no_run is_in_part c (w ++ s) i)) h

abbrev part_in : ℕ → List ℕ → Option ℕ
part_in k s = if not (k == 0) && begins_with 93 (drop k s) then Some k else None

shut_part : (s : List ℕ) → (passing is_in_part s ≡ 0) ⊎ (closes s ≡ false) → part_length (91 ∷ s) ≡ None
shut_part s (inl e) = ap (λ k. part_in k s) e
shut_part s (inr e) = ap (λ z. if z then Some (passing is_in_part s) else None) (and_right (not (passing is_in_part s == 0)) (closes s) e)

part_shut : (s : List ℕ) → part_length (91 ∷ s) ≡ None → (passing is_in_part s ≡ 0) ⊎ (closes s ≡ false)
part_shut s e = by (passing is_in_part s == 0) refl (closes s) refl e
  where
    by : (y : Bool) → (passing is_in_part s == 0) ≡ y → (z : Bool) → closes s ≡ z → (if not y && z then Some (passing is_in_part s) else None) ≡ None → (passing is_in_part s ≡ 0) ⊎ (closes s ≡ false)
    by true h z f g = inl (eqb-true (passing is_in_part s) 0 h)
    by false h false f g = inr f
    by false h true f g = absurd (cc)

no_bracket : (b : ℕ) (s : List ℕ) → (b == 91) ≡ false → part_length (b ∷ s) ≡ None
no_bracket b s h = ap (λ z. if z && not (passing is_in_part s == 0) && closes s then Some (passing is_in_part s) else None) h

-- a `[` that begins no operand is a token by itself
alone : (x : Context) (s : List ℕ) (y : Token) (n : ℕ) → x.at_operand ≡ false → token_at x (91 ∷ s) ≡ Some (y, n) → n ≡ 1
alone x s y n h e = sym (ap count_of (sym (bracket_there x s ∙ ap (λ z. bracket_at z (91 ∷ s)) h) ∙ e))

parts_stay : (x : Context) (s u : List ℕ) → x.at_operand ≡ false → Ahead x s u → part_length s ≡ None → part_length u ≡ None
parts_stay x s _ o (free at_end) e = refl
parts_stay x s _ o (free (at_blank {b} {s = v} f)) e = no_bracket b v (blank_case (λ k. (k == 91) ≡ false) b f refl refl refl refl)
parts_stay x s _ o (free (at_comment {s = v})) e = no_bracket 35 v refl
parts_stay x s u o (same i) e = subst (λ v. part_length v ≡ None) i e
parts_stay x s u o (token c w r q y i j k l) e = ap part_length j ∙ by (c == 91) refl
  where
    by : (z : Bool) → (c == 91) ≡ z → part_length (c ∷ (w ++ q)) ≡ None
    by false h = no_bracket c (w ++ q) h
    by true h = only w (ap (λ b. token_at x (b ∷ (w ++ r))) (sym (eqb-true c 91 h)) ∙ k) (ap (λ b. part_length (b ∷ (w ++ r))) (sym (eqb-true c 91 h)) ∙ ap part_length (sym i) ∙ e)
      where
        only : (w : List ℕ) → token_at x (91 ∷ (w ++ r)) ≡ Some (y, suc (length w)) → part_length (91 ∷ (w ++ r)) ≡ None → part_length (c ∷ (w ++ q)) ≡ None
        only (b ∷ w) f g = absurd (omega (arith, alone x ((b ∷ w) ++ r) y (suc (length (b ∷ w))) o f))
        only [] f g = ap (λ b. part_length (b ∷ q)) (eqb-true c 91 h) ∙ shut_part q (part_in_both (part_shut r g))
          where
            part_in_both : (passing is_in_part r ≡ 0) ⊎ (closes r ≡ false) → (passing is_in_part q ≡ 0) ⊎ (closes q ≡ false)
            part_in_both (inl e) = no_part_in (after_token x y) r q l e
            part_in_both (inr e) = inr (never_closes (after_token x y) r q l e)

-- ---- the same token is found

taken : {A : Type 0} (f : A → Token × ℕ) (o : Option A) (y : Token) (n : ℕ) → option_map f o ≡ Some (y, n) → (a : A) × (o ≡ Some a) × (f a ≡ (y, n))
taken f None y n e = absurd (cc)
taken f (Some a) y n e = (a, refl, cc)

pick : (z : Bool) (a b c d p : Found) → (z ≡ true → a ≡ p → c ≡ p) → (z ≡ false → b ≡ p → d ≡ p) → (if z then a else b) ≡ p → (if z then c else d) ≡ p
pick true a b c d p f g e = f refl e
pick false a b c d p f g e = g refl e

run_same : (test : ℕ → Bool) (w s u : List ℕ) → (passing test s ≡ 0 → passing test u ≡ 0) → passing test (w ++ s) ≡ length w → passing test (w ++ u) ≡ length w
unfolding passing
run_same test [] s u h e = h e
run_same test (c ∷ w) s u h e = by (test c) e (λ k. run_same test w s u h k)
  where
    by : (z : Bool) → (if z then suc (passing test (w ++ s)) else 0) ≡ suc (length w) → (passing test (w ++ s) ≡ length w → passing test (w ++ u) ≡ length w) → (if z then suc (passing test (w ++ u)) else 0) ≡ suc (length w)
    by true k again = ap suc (again (omega (arith, k)))
    by false k again = absurd (omega (arith, k))

-- ---- words

in_word_stops : (dashes : Bool) → Stops (is_in_word dashes)
in_word_stops true = (refl, refl, refl, refl, refl)
in_word_stops false = (refl, refl, refl, refl, refl)

word_is : (test : ℕ → Bool) (v u : List ℕ) → passing test (v ++ u) ≡ length v → ◌≡◌ {A = Found} (Some (word_token (take (passing test (v ++ u)) (v ++ u)), passing test (v ++ u))) (Some (word_token v, length v))
word_is test v u e = ap (λ n. Some (word_token (take n (v ++ u)), n)) e ∙ ap (λ l. Some (word_token l, length v)) (take-append_seam v u)

word_same : (x : Context) (inside : Bool) (b : ℕ) (w s u : List ℕ) (y : Token) → Ahead x s u → word_at inside (b ∷ (w ++ s)) ≡ Some (y, suc (length w)) → word_at inside (b ∷ (w ++ u)) ≡ Some (y, suc (length w))
word_same x inside b w s u y h e =
    let test = is_in_word (not inside) in
    let long : passing test (b ∷ (w ++ s)) ≡ suc (length w) = ap count_of e in
    word_is test (b ∷ w) u (run_same test (b ∷ w) s u (runs test (in_word_stops (not inside)) x s u h) long) ∙ sym (word_is test (b ∷ w) s long) ∙ e

-- ---- numbers

abbrev digits_length : List ℕ → ℕ
digits_length v = passing is_digit v + point_length (drop (passing is_digit v) v)

digit_more : (c : ℕ) (v : List ℕ) → is_digit c ≡ true → digits_length (c ∷ v) ≡ suc (digits_length v)
unfolding passing
digit_more c v h = ap (λ z. (if z then suc (passing is_digit v) else 0) + point_length (drop (if z then suc (passing is_digit v) else 0) (c ∷ v))) h ∙ omega arith

digit_none : (c : ℕ) (v : List ℕ) → is_digit c ≡ false → digits_length (c ∷ v) ≡ point_length (c ∷ v)
unfolding passing
digit_none c v h = ap (λ z. (if z then suc (passing is_digit v) else 0) + point_length (drop (if z then suc (passing is_digit v) else 0) (c ∷ v))) h ∙ omega arith

module _ (s u : List ℕ) (no_digits : passing is_digit s ≡ 0 → passing is_digit u ≡ 0) (no_point_there : point_length s ≡ 0 → point_length u ≡ 0) where
  point_same : (c : ℕ) (w : List ℕ) → point_length (c ∷ (w ++ s)) ≡ suc (length w) → point_length (c ∷ (w ++ u)) ≡ suc (length w)
  point_same c w e = by w (c == 46) (begins_digit (w ++ s)) refl e
    where
      by : (w : List ℕ) (y z : Bool) → begins_digit (w ++ s) ≡ z → (if y && z then suc (passing is_digit (w ++ s)) else 0) ≡ suc (length w) → (if y && begins_digit (w ++ u) then suc (passing is_digit (w ++ u)) else 0) ≡ suc (length w)
      by w false z f k = absurd (omega (arith, k))
      by w true false f k = absurd (omega (arith, k))
      by [] true true f k = absurd (omega (arith, k, digits_some s f))
      by (d ∷ w) true true f k = ap (λ z. if z then suc (passing is_digit (d ∷ (w ++ u))) else 0) f ∙ ap suc (run_same is_digit (d ∷ w) s u no_digits (omega (arith, k)))

  digits_same : (w : List ℕ) → digits_length (w ++ s) ≡ length w → digits_length (w ++ u) ≡ length w
  digits_same [] e =
      let none : passing is_digit s ≡ 0 = omega (arith, e) in
      let at : point_length (drop (passing is_digit s) s) ≡ point_length s = ap (λ k. point_length (drop k s)) none in
      let point : point_length s ≡ 0 = omega (arith, e, at) in
      let still : passing is_digit u ≡ 0 = no_digits none in
      let there : point_length (drop (passing is_digit u) u) ≡ point_length u = ap (λ k. point_length (drop k u)) still in
      omega (arith, still, there, no_point_there point)
  digits_same (c ∷ w) e = by (is_digit c) refl (digits_same w)
    where
      by : (z : Bool) → is_digit c ≡ z → (digits_length (w ++ s) ≡ length w → digits_length (w ++ u) ≡ length w) → digits_length (c ∷ (w ++ u)) ≡ suc (length w)
      by true h again = let k : digits_length (w ++ s) ≡ length w = omega (arith, digit_more c (w ++ s) h, e) in omega (arith, digit_more c (w ++ u) h, again k)
      by false h again = digit_none c (w ++ u) h ∙ point_same c w (sym (digit_none c (w ++ s) h) ∙ e)

signed_length : (b : ℕ) (v : List ℕ) → (b == 45) ≡ true → number_length (b ∷ v) ≡ suc (digits_length v)
signed_length b v h =
    let is : number_length (b ∷ v) ≡ (1 + passing is_digit v) + point_length (drop (1 + passing is_digit v) (b ∷ v)) = ap (λ z. ((if z then 1 else 0) + passing is_digit (drop (if z then 1 else 0) (b ∷ v))) + point_length (drop ((if z then 1 else 0) + passing is_digit (drop (if z then 1 else 0) (b ∷ v))) (b ∷ v))) h in
    let one : 1 + passing is_digit v ≡ suc (passing is_digit v) = omega arith in
    let point : point_length (drop (1 + passing is_digit v) (b ∷ v)) ≡ point_length (drop (passing is_digit v) v) = ap (λ k. point_length (drop k (b ∷ v))) one in
    omega (arith, is, point)

plain_length : (b : ℕ) (v : List ℕ) → (b == 45) ≡ false → number_length (b ∷ v) ≡ digits_length (b ∷ v)
plain_length b v h =
    let is : number_length (b ∷ v) ≡ (0 + passing is_digit (b ∷ v)) + point_length (drop (0 + passing is_digit (b ∷ v)) (b ∷ v)) = ap (λ z. ((if z then 1 else 0) + passing is_digit (drop (if z then 1 else 0) (b ∷ v))) + point_length (drop ((if z then 1 else 0) + passing is_digit (drop (if z then 1 else 0) (b ∷ v))) (b ∷ v))) h in
    let none : 0 + passing is_digit (b ∷ v) ≡ passing is_digit (b ∷ v) = omega arith in
    let point : point_length (drop (0 + passing is_digit (b ∷ v)) (b ∷ v)) ≡ point_length (drop (passing is_digit (b ∷ v)) (b ∷ v)) = ap (λ k. point_length (drop k (b ∷ v))) none in
    omega (arith, is, point)

signed_begins : (b : ℕ) (v : List ℕ) → (b == 45) ≡ true → begins_number (b ∷ v) ≡ begins_digit v
signed_begins b v h = ap (λ z. begins_digit (drop (if z then 1 else 0) (b ∷ v))) h

plain_begins : (b : ℕ) (v : List ℕ) → (b == 45) ≡ false → begins_number (b ∷ v) ≡ is_digit b
plain_begins b v h = ap (λ z. begins_digit (drop (if z then 1 else 0) (b ∷ v))) h

number_is : (v u : List ℕ) → number_length (v ++ u) ≡ length v → number_at (v ++ u) ≡ option_map (λ value. (t.Number value v, length v)) (number_of v)
number_is v u e =
    ap (λ n. option_map (λ value. (t.Number value (take n (v ++ u)), n)) (number_of (take n (v ++ u)))) e ∙ ap (λ l. option_map (λ value. (t.Number value l, length v)) (number_of l)) (take-append_seam v u)

number_same : (x : Context) (b : ℕ) (w s u : List ℕ) (y : Token) → Ahead x s u → begins_number (b ∷ (w ++ s)) ≡ true → number_at (b ∷ (w ++ s)) ≡ Some (y, suc (length w))
    → (begins_number (b ∷ (w ++ u)) ≡ true) × (number_at (b ∷ (w ++ u)) ≡ Some (y, suc (length w)))
number_same x b w s u y h f e = by w (b == 45) refl f e
  where
    no_digits : passing is_digit s ≡ 0 → passing is_digit u ≡ 0
    no_digits = runs is_digit (refl, refl, refl, refl, refl) x s u h

    no_points : point_length s ≡ 0 → point_length u ≡ 0
    no_points = points x s u h

    long : (w : List ℕ) → number_at (b ∷ (w ++ s)) ≡ Some (y, suc (length w)) → number_length (b ∷ (w ++ s)) ≡ suc (length w)
    long w k = let r = taken (λ value. (t.Number value (take (number_length (b ∷ (w ++ s))) (b ∷ (w ++ s))), number_length (b ∷ (w ++ s)))) (number_of (take (number_length (b ∷ (w ++ s))) (b ∷ (w ++ s)))) y (suc (length w)) k in ap (λ p. p.1) r.2

    by : (w : List ℕ) (z : Bool) → (b == 45) ≡ z → begins_number (b ∷ (w ++ s)) ≡ true → number_at (b ∷ (w ++ s)) ≡ Some (y, suc (length w)) → (begins_number (b ∷ (w ++ u)) ≡ true) × (number_at (b ∷ (w ++ u)) ≡ Some (y, suc (length w)))
    by [] true g f k = absurd (omega (arith, long [] k, signed_length b s g, digits_some s (sym (signed_begins b s g) ∙ f)))
    by (d ∷ w) true g f k =
        let digits : digits_length (d ∷ (w ++ s)) ≡ suc (length w) = omega (arith, long (d ∷ w) k, signed_length b (d ∷ (w ++ s)) g) in
        let whole : number_length (b ∷ d ∷ (w ++ u)) ≡ suc (suc (length w)) = signed_length b (d ∷ (w ++ u)) g ∙ ap suc (digits_same s u no_digits no_points (d ∷ w) digits) in
        (signed_begins b (d ∷ (w ++ u)) g ∙ sym (signed_begins b (d ∷ (w ++ s)) g) ∙ f, number_is (b ∷ d ∷ w) u whole ∙ sym (number_is (b ∷ d ∷ w) s (long (d ∷ w) k)) ∙ k)
    by w false g f k =
        let digits : digits_length (b ∷ (w ++ s)) ≡ suc (length w) = sym (plain_length b (w ++ s) g) ∙ long w k in
        let whole : number_length (b ∷ (w ++ u)) ≡ suc (length w) = plain_length b (w ++ u) g ∙ digits_same s u no_digits no_points (b ∷ w) digits in
        (plain_begins b (w ++ u) g ∙ sym (plain_begins b (w ++ s) g) ∙ f, number_is (b ∷ w) u whole ∙ sym (number_is (b ∷ w) s (long w k)) ∙ k)

-- ---- strings and regexps

closing_same : (c : ℕ) (escaped : Bool) (w s u : List ℕ) (n : ℕ) → n < length w → closing c escaped (w ++ s) ≡ Some n → closing c escaped (w ++ u) ≡ Some n
unfolding closing
closing_same c escaped [] s u n l e = absurd (omega (arith, l))
closing_same c escaped (b ∷ w) s u n l e = by (b == c && not escaped) (closing c (b == 92) (w ++ s)) refl e (λ k m i. closing_same c (b == 92) w s u k m i)
  where
    by : (z : Bool) (o : Option ℕ) → closing c (b == 92) (w ++ s) ≡ o → (if z then Some 0 else option_map suc o) ≡ Some n → ((k : ℕ) → k < length w → closing c (b == 92) (w ++ s) ≡ Some k → closing c (b == 92) (w ++ u) ≡ Some k)
        → (if z then Some 0 else option_map suc (closing c (b == 92) (w ++ u))) ≡ Some n
    by true o f g again = g
    by false None f g again = absurd (cc)
    by false (Some k) f g again = let is : suc k ≡ n = cc in ap (option_map suc) (again k (omega (arith, l, is)) f) ∙ g

closed_same : (f : List ℕ → Token) (c : ℕ) (w s u : List ℕ) (y : Token) → option_map {U = Token × ℕ} (λ n. (f (take n (w ++ s)), n + 2)) (closing c false (w ++ s)) ≡ Some (y, suc (length w))
    → option_map {U = Token × ℕ} (λ n. (f (take n (w ++ u)), n + 2)) (closing c false (w ++ u)) ≡ Some (y, suc (length w))
closed_same f c w s u y e =
    let r = taken (λ n. (f (take n (w ++ s)), n + 2)) (closing c false (w ++ s)) y (suc (length w)) e in
    let n = r.0 in
    let long : n + 2 ≡ suc (length w) = ap (λ p. p.1) r.2 in
    let less : n < length w = omega (arith, long) in
    let within : n ≤ length w = omega (arith, less) in
    ap (option_map {U = Token × ℕ} (λ n. (f (take n (w ++ u)), n + 2))) (closing_same c false w s u n less r.1) ∙ ap (λ l. Some (f l, n + 2)) (take-append-le n w u within ∙ sym (take-append-le n w s within)) ∙ ap Some r.2

-- ---- selectors and lists

-- the parts that are read, and what is behind them
record Parted (front : List (List ℕ)) (v : List ℕ) (all : List (List ℕ)) : Type 0 where
  more : List (List ℕ)
  rest : List ℕ
  all_are : all ≡ front ++ more
  whole : v ≡ bracketed more ++ rest
  none : part_length rest ≡ None

parted : (n : ℕ) (front : List (List ℕ)) (v : List ℕ) → length v ≤ n → Parted front v (parts_at n front v)
parted zero front [] l = record { more = []; rest = []; all_are = parts_stop 0 front [] refl ∙ sym (append-nil front); whole = refl; none = refl }
parted zero front (b ∷ v) l = absurd (omega (arith, l))
parted (suc n) front v l = by (part_length v) refl (λ f r k. parted n f r k)
  where
    by : (o : Option ℕ) → part_length v ≡ o → ((f : List (List ℕ)) (r : List ℕ) → length r ≤ n → Parted f r (parts_at n f r)) → Parted front v (parts_at (suc n) front v)
    by None e again = record { more = []; rest = v; all_are = parts_stop (suc n) front v e ∙ sym (append-nil front); whole = refl; none = e }
    by (Some k) e again =
        let r = part_from v k e in
        let q = take k (drop 1 v) in
        let is : part_length v ≡ Some (length q) = ap part_length r.whole ∙ part_is q r.rest r.fits in
        let long : k ≡ length q = let same : Some k ≡ Some (length q) = sym e ∙ is in cc in
        let behind : drop (k + 2) v ≡ r.rest = ap (λ j. drop (j + 2) v) long ∙ ap (drop (length q + 2)) r.whole ∙ drop_part q r.rest in
        let m = again (front ++ q ∷ []) (drop (k + 2) v) (omega (arith, length-drop (k + 2) v, l, ap length r.whole)) in
        record {
          more = q ∷ m.more;
          rest = m.rest;
          all_are = parts_on n k front v e ∙ m.all_are ∙ append_assoc front (q ∷ []) m.more;
          whole = r.whole ∙ ap (λ b. 91 ∷ (q ++ 93 ∷ b)) (sym behind ∙ m.whole) ∙ ap (λ l. 91 ∷ l) (sym (append_assoc q (93 ∷ bracketed m.more) m.rest));
          none = m.none;
        }

abbrev first_literal : List ℕ → Bool
first_literal v = begins_literals (drop (skip false v) v)

abbrev bracket : Bool → ℕ → List ℕ → Found
bracket operand b v = if operand && not (first_literal v) then selector_of (parts_at (length (b ∷ v)) [] (b ∷ v)) else Some (t.OpenBracket, 1)

bracket_is : (operand : Bool) (b : ℕ) (v : List ℕ) → bracket_at operand (b ∷ v) ≡ bracket operand b v
bracket_is operand b v =
    let one : 1 + skip false v ≡ suc (skip false v) = omega arith in
    ap (λ k. if operand && not (begins_literals (drop k (b ∷ v))) then selector_of (parts_at (length (b ∷ v)) [] (b ∷ v)) else Some (t.OpenBracket, 1)) one

module _ (x : Context) (b : ℕ) (w s u : List ℕ) (y : Token) (h : IsRespaced (after_token x y) s u) where
  selector_same : (parts : List (List ℕ)) → parts_at (length (b ∷ (w ++ s))) [] (b ∷ (w ++ s)) ≡ parts → first_literal (w ++ s) ≡ false → selector_of parts ≡ Some (y, suc (length w)) → bracket true b (w ++ u) ≡ Some (y, suc (length w))
  selector_same [] e f k = absurd (cc)
  selector_same (p ∷ ps) e f k =
      let v = b ∷ (w ++ s) in
      let all = bracketed (p ∷ ps) in
      let is : t.Selector (p ∷ ps) ≡ y = ap token_of k in
      let count : selector_length (p ∷ ps) ≡ suc (length w) = ap count_of k in
      let fits : SelectorFits (p ∷ ps) = selector_from (length v) v p ps e f in
      let m = parted (length v) [] v (omega arith) in
      let more : p ∷ ps ≡ m.more = sym e ∙ m.all_are in
      let whole : (b ∷ w) ++ s ≡ all ++ m.rest = m.whole ∙ ap (λ q. bracketed q ++ m.rest) (sym more) in
      let long : length (b ∷ w) ≡ length all = sym count ∙ selector_long (p ∷ ps) in
      let text : b ∷ w ≡ all = sym (take-append_seam (b ∷ w) s) ∙ ap (take (length (b ∷ w))) whole ∙ ap (λ n. take n (all ++ m.rest)) long ∙ take-append_seam all m.rest in
      let behind : s ≡ m.rest = sym (drop-append_seam (b ∷ w) s) ∙ ap (drop (length (b ∷ w))) whole ∙ ap (λ n. drop n (all ++ m.rest)) long ∙ drop-append_seam all m.rest in
      let operand : (after_token x y).at_operand ≡ false = ap (λ z. (after_token x z).at_operand) (sym is) in
      let none : part_length u ≡ None = parts_stay (after_token x y) s u operand (ahead (after_token x y) s u h) (ap part_length behind ∙ m.none) in
      let there : b ∷ (w ++ u) ≡ all ++ u = ap (λ l. l ++ u) text in
      let parts : parts_at (length (b ∷ (w ++ u))) [] (b ∷ (w ++ u)) ≡ p ∷ ps = ap (λ l. parts_at (length l) [] l) there ∙ parts_again (length (all ++ u)) [] (p ∷ ps) u (parts_short (p ∷ ps) u) fits.0 none in
      let inner : w ++ u ≡ p ++ 93 ∷ (bracketed ps ++ u) = ap (λ l. drop 1 l) there ∙ append_assoc p (93 ∷ bracketed ps) u in
      let opens_it : first_literal (w ++ u) ≡ false = ap (λ l. begins_literals (drop (skip false l) l)) inner ∙ opens_list p (bracketed ps ++ u) fits.0.0.0 ∙ ap not fits.1 in
      ap (λ z. if not z then selector_of (parts_at (length (b ∷ (w ++ u))) [] (b ∷ (w ++ u))) else Some (t.OpenBracket, 1)) opens_it ∙ ap selector_of parts ∙ k

  list_same : (operand z : Bool) → first_literal (w ++ s) ≡ z → (if operand && not z then selector_of (parts_at (length (b ∷ (w ++ s))) [] (b ∷ (w ++ s))) else Some (t.OpenBracket, 1)) ≡ Some (y, suc (length w)) → bracket operand b (w ++ u) ≡ Some (y, suc (length w))
  list_same false z f e = e
  list_same true false f e = selector_same (parts_at (length (b ∷ (w ++ s))) [] (b ∷ (w ++ s))) refl f e
  list_same true true f e =
      let none : length w ≡ 0 = let one : 1 ≡ suc (length w) = ap count_of e in omega (arith, one) in
      ap (λ z. if not z then selector_of (parts_at (length (b ∷ (w ++ u))) [] (b ∷ (w ++ u))) else Some (t.OpenBracket, 1)) (by w none f) ∙ e
    where
      by : (w : List ℕ) → length w ≡ 0 → first_literal (w ++ s) ≡ true → first_literal (w ++ u) ≡ true
      by [] n f = sym (literals (after_token x y) s u h) ∙ f
      by (d ∷ w) n f = absurd (omega (arith, n))

  bracket_same : (operand : Bool) → bracket_at operand (b ∷ (w ++ s)) ≡ Some (y, suc (length w)) → bracket_at operand (b ∷ (w ++ u)) ≡ Some (y, suc (length w))
  bracket_same operand e = bracket_is operand b (w ++ u) ∙ list_same operand (first_literal (w ++ s)) refl (sym (bracket_is operand b (w ++ s)) ∙ e)

-- ---- signs

pass_by : (p q : Bool) (a d : Option Token) → q ≡ false → (if p && q then a else d) ≡ d
pass_by p q a d h = ap (λ z. if z then a else d) (and_right p q h)

no_double : (b c : ℕ) → (c == 62) ≡ false → (c == 61) ≡ false → (c == 126) ≡ false → double b c ≡ None
no_double b c f g h =
    pass_by (b == 61) (c == 62) _ _ f ∙ pass_by (b == 61) (c == 61) _ _ g ∙ pass_by (b == 33) (c == 61) _ _ g ∙ pass_by (b == 60) (c == 61) _ _ g ∙ pass_by (b == 62) (c == 61) _ _ g ∙ pass_by (b == 61) (c == 126) _ _ h ∙ pass_by (b == 33) (c == 126) _ _ h

short : (o q : Option Token) (y : Token) → longer o q ≡ Some (y, 1) → longer None q ≡ Some (y, 1)
short None q y e = e
short (Some z) q y e = let two : 2 ≡ 1 = ap count_of e in absurd (omega (arith, two))

short_sign : (b : ℕ) (s : List ℕ) (y : Token) → sign_at (b ∷ s) ≡ Some (y, 1) → longer None (single b) ≡ Some (y, 1)
short_sign b [] y e = e
short_sign b (c ∷ s) y e = short (double b c) (single b) y e

sign_same : (x : Context) (b : ℕ) (w s u : List ℕ) (y : Token) → Ahead x s u → sign_at (b ∷ (w ++ s)) ≡ Some (y, suc (length w)) → sign_at (b ∷ (w ++ u)) ≡ Some (y, suc (length w))
sign_same x b (c ∷ w) s u y h e = e
sign_same x b [] s _ y (free at_end) e = short_sign b s y e
sign_same x b [] s _ y (free (at_blank {b = c} {s = v} f)) e =
    let none : double b c ≡ None = blank_case (λ k. double b k ≡ None) c f (no_double b 32 refl refl refl) (no_double b 9 refl refl refl) (no_double b 13 refl refl refl) (no_double b 10 refl refl refl) in
    ap (λ o. longer o (single b)) none ∙ short_sign b s y e
sign_same x b [] s _ y (free (at_comment {s = v})) e = ap (λ o. longer o (single b)) (no_double b 35 refl refl refl) ∙ short_sign b s y e
sign_same x b [] s u y (same i) e = subst (λ v. sign_at (b ∷ v) ≡ Some (y, 1)) i e
sign_same x b [] s u y (token c w r q z i j k l) e = ap (λ v. sign_at (b ∷ v)) j ∙ sym (ap (λ v. sign_at (b ∷ v)) i) ∙ e

no_minus : (s : List ℕ) (p : Token × ℕ) → sign_at (45 ∷ s) ≡ Some p → ⊥
no_minus [] p e = absurd (cc)
no_minus (c ∷ s) p e = absurd (cc)

-- ---- each token

again : (x : Context) (b : ℕ) (w s u : List ℕ) (y : Token) → IsRespaced (after_token x y) s u → token_at x (b ∷ (w ++ s)) ≡ Some (y, suc (length w)) → token_at x (b ∷ (w ++ u)) ≡ Some (y, suc (length w))
unfolding token_at
again x b w s u y h e =
    pick (is_letter b) (word_at x.in_condition (b ∷ (w ++ s))) (behind_letters x b (w ++ s)) (word_at x.in_condition (b ∷ (w ++ u))) (behind_letters x b (w ++ u)) p
    (λ l k. word_same (after_token x y) x.in_condition b w s u y near k) (λ l k. numbers (begins_number (b ∷ (w ++ s))) refl k) e
  where
    p : Found
    p = Some (y, suc (length w))

    near : Ahead (after_token x y) s u
    near = ahead (after_token x y) s u h

    others : behind_numbers x b (w ++ s) ≡ p → behind_numbers x b (w ++ u) ≡ p
    others = pick (b == 34 || b == 39) (quoted_at b (w ++ s)) (behind_strings x b (w ++ s)) (quoted_at b (w ++ u)) (behind_strings x b (w ++ u)) p (λ l k. closed_same (λ q. t.Quoted q) b w s u y k)
        (λ l. pick (b == 47) (regexp_at (w ++ s)) (behind_regexps x b (w ++ s)) (regexp_at (w ++ u)) (behind_regexps x b (w ++ u)) p (λ l k. closed_same (λ q. t.Regexp (unescaped q)) 47 w s u y k)
        (λ l. pick (b == 91) (bracket_at x.at_operand (b ∷ (w ++ s))) (sign_at (b ∷ (w ++ s))) (bracket_at x.at_operand (b ∷ (w ++ u))) (sign_at (b ∷ (w ++ u))) p (λ l k. bracket_same x b w s u y h x.at_operand k)
        (λ l k. sign_same (after_token x y) b w s u y near k)))

    no_number : (z : Bool) → (b == 45) ≡ z → begins_number (b ∷ (w ++ s)) ≡ false → behind_numbers x b (w ++ s) ≡ p → begins_number (b ∷ (w ++ u)) ≡ false
    no_number true f g k = absurd (no_minus (w ++ s) (y, suc (length w)) (ap (λ c. behind_numbers x c (w ++ s)) (sym (eqb-true b 45 f)) ∙ k))
    no_number false f g k = plain_begins b (w ++ u) f ∙ sym (plain_begins b (w ++ s) f) ∙ g

    numbers : (z : Bool) → begins_number (b ∷ (w ++ s)) ≡ z → (if z then number_at (b ∷ (w ++ s)) else behind_numbers x b (w ++ s)) ≡ p → behind_letters x b (w ++ u) ≡ p
    numbers true f k = let r = number_same (after_token x y) b w s u y near f k in ap (λ z. if z then number_at (b ∷ (w ++ u)) else behind_numbers x b (w ++ u)) r.0 ∙ r.1
    numbers false f k = ap (λ z. if z then number_at (b ∷ (w ++ u)) else behind_numbers x b (w ++ u)) (no_number (b == 45) refl f k) ∙ others k

-- ---- all tokens

one_token : (n : ℕ) (x : Context) (y : Token) (w s : List ℕ) (ts : List Token) → token_at x (w ++ s) ≡ Some (y, length w) → length (w ++ s) ≤ n → ((m : ℕ) → length s ≤ m → scan m (after_token x y) s ≡ ts) → scan n x (w ++ s) ≡ y ∷ ts
one_token zero x y w s ts e l again = absurd (omega (arith, l, length-append w s, some_bytes x w s y e))
one_token (suc m) x y w s ts e l again = scan_token m x y w s e ∙ ap (λ r. y ∷ r) (again m (omega (arith, l, length-append w s, some_bytes x w s y e)))

respaced : (x : Context) (s u : List ℕ) → IsRespaced x s u → (n m : ℕ) → length s ≤ n → length u ≤ m → scan n x s ≡ scan m x u
respaced x _ _ (ends {s} {t = u} e f) n m k l = scan_end n x s e ∙ sym (scan_end m x u f)
respaced x _ _ (stays old new rest h) n m k l =
    scan_gap n x old rest h.was ∙ enough n m x rest (omega (arith, k, length-append old rest)) (omega (arith, l, length-append new rest)) ∙ sym (scan_gap m x new rest h.is)
respaced x _ _ (goes_on old new [] s u y h e r) n m k l = absurd (omega (arith, some_bytes x [] s y e))
respaced x _ _ (goes_on old new (b ∷ w) s u y h e r) n m k l =
    let z = after_token x y in
    let long : length (b ∷ (w ++ s)) ≤ n = omega (arith, k, length-append old (b ∷ (w ++ s))) in
    let there : length (b ∷ (w ++ u)) ≤ m = omega (arith, l, length-append new (b ∷ (w ++ u))) in
    scan_gap n x old (b ∷ (w ++ s)) h.was ∙ one_token n x y (b ∷ w) s (scan (length s) z s) e long (λ i j. enough i (length s) z s j (omega arith))
    ∙ ap (λ ts. y ∷ ts) (respaced z s u r (length s) (length u) (omega arith) (omega arith))
    ∙ sym (scan_gap m x new (b ∷ (w ++ u)) h.is ∙ one_token m x y (b ∷ w) u (scan (length u) z u) (again x b w s u y r e) there (λ i j. enough i (length u) z u j (omega arith)))

pub gaps_change_no_token : GapsChangeNoToken
gaps_change_no_token text other h = tokens_scanned text ∙ respaced start text other h (length text) (length other) (omega arith) (omega arith) ∙ sym (tokens_scanned other)
