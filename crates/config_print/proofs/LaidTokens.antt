-- Tokens that are written with blanks between are read from their text.
use Rattle.std.proofs.Common.{◌≡◌, ℕ, zero, suc, ◌+◌, ◌<◌, ◌≤◌, ◌==◌, ◌&&◌, ◌||◌, ◌⊎◌, inl, inr, not, List, [], ◌∷◌, ◌++◌, length, take, drop, Some, None, option_map, Bool, true, false, if◌then◌else◌, refl, ap, sym, subst, ◌∙◌, arith, append_assoc, length-append, nat_eq, map}
use Rattle.std.specs.List.{list_all, list_any}
use Rattle.std.proofs.lemmas.Bool.Decides.{nat_tests}
use Rattle.std.proofs.lemmas.Bool.{and_right, eqb-true, and_parts, and_from}
use Rattle.std.proofs.lemmas.List.{drop_all, drop-drop, length-drop}
use Rattle.std.proofs.Math.Seq.{take-append_seam, drop-append_seam}
use Rattle.event_tree.specs.Number.{Num}
use Rattle.event_tree.specs.NumberTexts.{is_digit}
use Rattle.event_tree.specs.PathTexts.{bracketed}
use Rattle.event_json.specs.Json.{number_text}
use Rattle.config_lex.specs.declared.token.Token.{Token}
use Rattle.config_lex.specs.declared.token.Token.TheVariants as t
use Rattle.config_lex.specs.declared.token.Word.{Word}
use Rattle.config_tree.specs.declared.operators.Comparison.{Comparison}
use Rattle.config_tree.specs.declared.operators.Comparison.TheVariants as is
use Rattle.config_tree.specs.declared.operators.Matching.{Matching}
use Rattle.config_tree.specs.declared.operators.Matching.TheVariants as matching
use Rattle.config_lex.specs.declared.context.Context.{Context}
use Rattle.config_lex.specs.Bytes.{skip, unescaped, is_blank, is_letter, is_in_word, number_of, begins_number}
use Rattle.config_lex.specs.Spelling.{spelling}
use Rattle.config_lex.specs.declared.token.Word.TheVariants as w
use Rattle.config_lex.specs.Lexemes.{start, after_token, word_of, word_token, word_at, number_at, quoted_at, regexp_at, bracket_at, selector_of, selector_length, parts_at, begins_literals, sign_at, double, single, longer, token_at, tokens, Found, found, next, lexed}
use Rattle.config_print.proofs.Pieces.{AllOf, AreBlanks, IsGap, IsWritten, Fine}
use Rattle.config_print.specs.Tokens.{is_word, has_quote, quote_of, string, escaped, regexp, word_text, written}
use Rattle.config_print.specs.Layout.{Piece, text_of, tokens_of}
use Rattle.config_print.specs.Printed.{lines_text}
use Rattle.config_print.proofs.Placed.{Suits, Placed, first_literal}
use Rattle.config_print.proofs.Strings.{printed_closes, regexp_closes, unescaped_again}
use Rattle.config_print.proofs.Words.{letter_in_word, Apart, blank_case, word_run, no_part, parts_again, opens_list}
use Rattle.config_print.proofs.Numbers.{IsHeld, number_lexes}
use Rattle.config_print.proofs.Fit.{Fit, word_more, behind_letters, behind_numbers, Found_fits, found_fits}
use Rattle.config_lex.specs.declared.token.Lexeme.{Lexeme}

-- ---- the lexer without places

abbrev pub scanned : Found → List ℕ → Context → (Context → List ℕ → List Token) → List Token
scanned None s x go = t.Unreadable ∷ []
scanned (Some p) s x go = p.0 ∷ go (after_token x p.0) (drop p.1 s)

abbrev pub scan_next : Context → List ℕ → (Context → List ℕ → List Token) → List Token
scan_next x [] go = []
scan_next x (b ∷ s) go = scanned (token_at x (b ∷ s)) (b ∷ s) x go

-- at most so many tokens
unfoldable pub scan : ℕ → Context → List ℕ → List Token
scan zero x s = []
scan (suc n) x s = scan_next x (drop (skip false s) s) (λ y r. scan n y r)

abbrev bare : List Lexeme → List Token
bare ls = map (λ l. l.token) ls

lexed_scan : (n at : ℕ) (x : Context) (text : List ℕ) → bare (lexed n at x text) ≡ scan n x (drop at text)
unfolding lexed scan
lexed_scan zero at x text = refl
lexed_scan (suc n) at x text = by (drop place text) refl (λ p y. lexed_scan n p y text) ∙ ap (λ r. scan_next x r (λ y q. scan n y q)) (sym (drop-drop (skip false (drop at text)) at text))
  where
    place : ℕ
    place = at + skip false (drop at text)

    one : (s : List ℕ) (o : Found) → drop place text ≡ s → ((p : ℕ) (y : Context) → bare (lexed n p y text) ≡ scan n y (drop p text)) → bare (found place x o (λ p y. lexed n p y text)) ≡ scanned o s x (λ y q. scan n y q)
    one s None h again = refl
    one s (Some p) h again = ap (λ l. p.0 ∷ l) (again (place + p.1) (after_token x p.0) ∙ ap (scan n (after_token x p.0)) (sym (drop-drop p.1 place text) ∙ ap (drop p.1) h))

    by : (r : List ℕ) → drop place text ≡ r → ((p : ℕ) (y : Context) → bare (lexed n p y text) ≡ scan n y (drop p text)) → bare (next place x r (λ p y. lexed n p y text)) ≡ scan_next x r (λ y q. scan n y q)
    by [] h again = refl
    by (b ∷ s) h again = one (b ∷ s) (token_at x (b ∷ s)) h again

-- the tokens of a text
pub tokens_scanned : (text : List ℕ) → tokens text ≡ scan (length text) start text
tokens_scanned text = lexed_scan (length text) 0 start text

scan_fits : (n : ℕ) (x : Context) (s : List ℕ) → AllOf Fit (scan n x s)
unfolding scan
scan_fits zero x s = tt
scan_fits (suc n) x s = by (drop (skip false s) s) (λ y r. scan_fits n y r)
  where
    one : (o : Found) (s : List ℕ) → Found_fits o → ((y : Context) (r : List ℕ) → AllOf Fit (scan n y r)) → AllOf Fit (scanned o s x (λ y r. scan n y r))
    one None s h again = (tt, tt)
    one (Some p) s h again = (h, again (after_token x p.0) (drop p.1 s))

    by : (r : List ℕ) → ((y : Context) (r : List ℕ) → AllOf Fit (scan n y r)) → AllOf Fit (scan_next x r (λ y r. scan n y r))
    by [] again = tt
    by (b ∷ s) again = one (token_at x (b ∷ s)) (b ∷ s) (found_fits x (b ∷ s)) again

-- all tokens of a text are fit
pub tokens_fit : (text : List ℕ) → AllOf Fit (tokens text)
tokens_fit text = subst (AllOf Fit) (sym (tokens_scanned text)) (scan_fits (length text) start text)

-- ---- words as they are written

-- a word is written as it is spelled
word_is : (a : Word) → Fit (t.Word a) → word_text a ≡ spelling a
word_is (w.Other s) h = ap (λ z. if z then s else string s) h.0
word_is a h = refl

-- ---- each token is read where it is written

word_there : (x : Context) (s rest : List ℕ) → is_word (not x.in_condition) s ≡ true → Apart rest → token_at x (s ++ rest) ≡ Some (word_token s, length s)
unfolding token_at
word_there x [] rest h u = absurd (cc)
word_there x (b ∷ s) rest h u =
    let d = not x.in_condition in
    let v = b ∷ (s ++ rest) in
    let l = (and_parts (is_letter b) (list_all (is_in_word d) s) h).0 in
    let all = and_from (is_in_word d b) (list_all (is_in_word d) s) (letter_in_word d b l) (and_parts (is_letter b) (list_all (is_in_word d) s) h).1 in
    ap (λ z. if z then word_at x.in_condition v else behind_letters x b (s ++ rest)) l
    ∙ ap (λ n. Some (word_token (take n v), n)) (word_run d (b ∷ s) rest all u) ∙ ap (λ k. Some (word_token k, length (b ∷ s))) (take-append_seam (b ∷ s) rest)

in_word_no_dash : (b : ℕ) → is_in_word false b ≡ true → nat_eq b 45 ≡ false
in_word_no_dash b h = grind (arith, nat_tests)

no_dashes : (s : List ℕ) → list_all (is_in_word false) s ≡ true → list_any (λ b. nat_eq b 45) s ≡ false
no_dashes [] h = refl
no_dashes (b ∷ s) h = ap (λ z. z || list_any (λ b. nat_eq b 45) s) (in_word_no_dash b (and_parts (is_in_word false b) (list_all (is_in_word false) s) h).0) ∙ no_dashes s (and_parts (is_in_word false b) (list_all (is_in_word false) s) h).1

no_dash : (s : List ℕ) → is_word false s ≡ true → list_any (λ b. nat_eq b 45) s ≡ false
no_dash [] h = refl
no_dash (b ∷ s) h =
    let l = (and_parts (is_letter b) (list_all (is_in_word false) s) h).0 in
    no_dashes (b ∷ s) (and_from (is_in_word false b) (list_all (is_in_word false) s) (letter_in_word false b l) (and_parts (is_letter b) (list_all (is_in_word false) s) h).1)

-- a token and its length
abbrev Takes : Context → Token → List ℕ → Type 0
Takes x y rest = token_at x (written y ++ rest) ≡ Some (y, length (written y))

word_reads : (x : Context) (a : Word) (rest : List ℕ) → Fit (t.Word a) → Apart rest → Takes x (t.Word a) rest
word_reads x a rest h u =
    let s = spelling a in
    subst (λ l. token_at x (l ++ rest) ≡ Some (t.Word a, length l)) (sym (word_is a h))
    (word_there x s rest (by x.in_condition) u ∙ ap (λ z. Some ((if z then t.Dashed s else t.Word (word_of s)), length s)) (no_dash s h.0) ∙ ap (λ z. Some (t.Word z, length s)) h.1)
  where
    by : (z : Bool) → is_word (not z) (spelling a) ≡ true
    by true = h.0
    by false = word_more (spelling a) h.0

dashed_reads : (x : Context) (s rest : List ℕ) → Fit (t.Dashed s) → x.in_condition ≡ false → Apart rest → Takes x (t.Dashed s) rest
dashed_reads x s rest h e u =
    word_there x s rest (ap (λ z. is_word (not z) s) e ∙ h.0) u ∙ ap (λ z. Some ((if z then t.Dashed s else t.Word (word_of s)), length s)) h.1

quote_there : (x : Context) (z : Bool) (v : List ℕ) → token_at x ((if z then 39 else 34) ∷ v) ≡ quoted_at (if z then 39 else 34) v
unfolding token_at
quote_there x true v = refl
quote_there x false v = refl

quoted_reads : (x : Context) (s rest : List ℕ) → Fit (t.Quoted s) → Takes x (t.Quoted s) rest
quoted_reads x s rest h =
    let q = quote_of s in
    let v = s ++ q ∷ rest in
    let long : length s + 2 ≡ length (string s) = omega (arith, length-append s (q ∷ [])) in
    ap (λ l. token_at x (q ∷ l)) (append_assoc s (q ∷ []) rest) ∙ quote_there x (has_quote false s) v
    ∙ ap (option_map (λ n. (t.Quoted (take n v), n + 2))) (printed_closes s rest h) ∙ ap (λ l. Some (t.Quoted l, length s + 2)) (take-append_seam s (q ∷ rest)) ∙ ap (λ k. Some (t.Quoted s, k)) long

slash_there : (x : Context) (v : List ℕ) → token_at x (47 ∷ v) ≡ regexp_at v
unfolding token_at
slash_there x v = refl

regexp_reads : (x : Context) (s rest : List ℕ) → Fit (t.Regexp s) → Takes x (t.Regexp s) rest
regexp_reads x s rest h =
    let e = escaped s in
    let v = e ++ 47 ∷ rest in
    let long : length e + 2 ≡ length (regexp s) = omega (arith, length-append e (47 ∷ [])) in
    ap (λ l. token_at x (47 ∷ l)) (append_assoc e (47 ∷ []) rest) ∙ slash_there x v
    ∙ ap (option_map (λ n. (t.Regexp (unescaped (take n v)), n + 2))) (regexp_closes false s rest h) ∙ ap (λ l. Some (t.Regexp (unescaped l), length e + 2)) (take-append_seam e (47 ∷ rest))
    ∙ ap (λ l. Some (t.Regexp l, length e + 2)) (unescaped_again s) ∙ ap (λ k. Some (t.Regexp s, k)) long

number_there : (x : Context) (b : ℕ) (v : List ℕ) → is_letter b ≡ false → begins_number (b ∷ v) ≡ true → token_at x (b ∷ v) ≡ number_at (b ∷ v)
unfolding token_at
number_there x b v h u = ap (λ z. if z then word_at x.in_condition (b ∷ v) else behind_letters x b v) h ∙ ap (λ z. if z then number_at (b ∷ v) else behind_numbers x b v) u

number_reads : (x : Context) (n : Num) (rest : List ℕ) → IsHeld n → Apart rest → Takes x (t.Number n (number_text n)) rest
number_reads x n rest h u =
    let r = number_lexes n rest h u in
    let s = number_text n in
    let v = s ++ rest in
    ap (λ l. token_at x (l ++ rest)) r.is ∙ number_there x r.first (r.more ++ rest) r.no_letter (ap (λ l. begins_number (l ++ rest)) (sym r.is) ∙ r.begins) ∙ ap (λ l. number_at (l ++ rest)) (sym r.is)
    ∙ ap (λ k. option_map (λ value. (t.Number value (take k v), k)) (number_of (take k v))) r.goes ∙ ap (λ l. option_map (λ value. (t.Number value l, length s)) (number_of l)) (take-append_seam s rest)
    ∙ ap (option_map (λ value. (t.Number value s, length s))) r.value

pub bracket_there : (x : Context) (v : List ℕ) → token_at x (91 ∷ v) ≡ bracket_at x.at_operand (91 ∷ v)
unfolding token_at
bracket_there x v = refl

pub parts_short : (ps : List (List ℕ)) (rest : List ℕ) → length ps ≤ length (bracketed ps ++ rest)
parts_short [] rest = omega arith
parts_short (p ∷ ps) rest = omega (arith, parts_short ps rest, length-append (p ++ 93 ∷ bracketed ps) rest, length-append p (93 ∷ bracketed ps), length-append (bracketed ps) rest)

pub selector_long : (ps : List (List ℕ)) → selector_length ps ≡ length (bracketed ps)
selector_long [] = refl
selector_long (p ∷ ps) = omega (arith, selector_long ps, length-append p (93 ∷ bracketed ps))

selector_reads : (x : Context) (parts : List (List ℕ)) (rest : List ℕ) → Fit (t.Selector parts) → x.at_operand ≡ true → Apart rest → Takes x (t.Selector parts) rest
selector_reads x [] rest h e u = absurd h
selector_reads x (p ∷ ps) rest h e u =
    let v = (p ++ 93 ∷ bracketed ps) ++ rest in
    let same : v ≡ p ++ 93 ∷ (bracketed ps ++ rest) = append_assoc p (93 ∷ bracketed ps) rest in
    let one : 1 + skip false v ≡ suc (skip false v) = omega arith in
    let opens : begins_literals (drop (1 + skip false v) (91 ∷ v)) ≡ false =
    ap (λ k. begins_literals (drop k (91 ∷ v))) one ∙ ap (λ l. begins_literals (drop (skip false l) l)) same ∙ opens_list p (bracketed ps ++ rest) h.0.0.0 ∙ ap not h.1 in
    bracket_there x v ∙ ap (λ z. bracket_at z (91 ∷ v)) e
    ∙ ap (λ z. if not z then selector_of (parts_at (length (91 ∷ v)) [] (91 ∷ v)) else Some (t.OpenBracket, 1)) opens
    ∙ ap selector_of (parts_again (length (91 ∷ v)) [] (p ∷ ps) rest (parts_short (p ∷ ps) rest) h.0 (no_part rest u))
    ∙ ap (λ k. Some (t.Selector (p ∷ ps), k)) (selector_long (p ∷ ps))

list_reads : (x : Context) (v : List ℕ) → ((x.at_operand ≡ false) ⊎ (begins_literals (drop (skip false v) v) ≡ true)) → Takes x t.OpenBracket v
list_reads x v (inl e) = bracket_there x v ∙ ap (λ z. bracket_at z (91 ∷ v)) e
list_reads x v (inr e) =
    let one : 1 + skip false v ≡ suc (skip false v) = omega arith in
    let opens : begins_literals (drop (1 + skip false v) (91 ∷ v)) ≡ true = ap (λ k. begins_literals (drop k (91 ∷ v))) one ∙ e in
    bracket_there x v ∙ ap (λ z. if x.at_operand && not z then selector_of (parts_at (length (91 ∷ v)) [] (91 ∷ v)) else Some (t.OpenBracket, 1)) opens
    ∙ ap (λ z. if z then selector_of (parts_at (length (91 ∷ v)) [] (91 ∷ v)) else Some (t.OpenBracket, 1)) (and_right x.at_operand false refl)

-- signs of one byte, before a blank or nothing
single_reads : (x : Context) (y : Token) (b : ℕ) (rest : List ℕ) → ((v : List ℕ) → token_at x (b ∷ v) ≡ sign_at (b ∷ v)) → single b ≡ Some y → (double b 32 ≡ None) × (double b 9 ≡ None) × (double b 13 ≡ None) × (double b 10 ≡ None)
    → Apart rest → token_at x (b ∷ rest) ≡ Some (y, 1)
single_reads x y b [] h e d u = h [] ∙ ap (longer None) e
single_reads x y b (c ∷ s) h e d u = h (c ∷ s) ∙ ap (λ o. longer o (single b)) (blank_case (λ k. double b k ≡ None) c u d.0 d.1 d.2 d.3) ∙ ap (longer None) e

compared_reads : (x : Context) (j : Comparison) (rest : List ℕ) → Apart rest → Takes x (t.Comparison j) rest
unfolding token_at
compared_reads x is.Equal rest u = refl
compared_reads x is.Unequal rest u = refl
compared_reads x is.Less rest u = single_reads x (t.Comparison is.Less) 60 rest (λ v. refl) refl (refl, refl, refl, refl) u
compared_reads x is.Greater rest u = single_reads x (t.Comparison is.Greater) 62 rest (λ v. refl) refl (refl, refl, refl, refl) u
compared_reads x is.AtMost rest u = refl
compared_reads x is.AtLeast rest u = refl

matched_reads : (x : Context) (j : Matching) (rest : List ℕ) → Takes x (t.Matching j) rest
unfolding token_at
matched_reads x matching.Matches rest = refl
matched_reads x matching.MatchesNot rest = refl

-- a byte that begins a token
abbrev pub solid : ℕ → Bool
solid b = not (is_blank b) && not (b == 35)

pub skip_solid : (b : ℕ) (v : List ℕ) → solid b ≡ true → skip false (b ∷ v) ≡ 0
unfolding skip
skip_solid b v h =
    let one : is_blank b ≡ false = grind (arith, nat_tests, h) in
    let two : (b == 35) ≡ false = grind (arith, nat_tests, h) in
    ap (λ z. if z then suc (skip false v) else (if b == 35 then suc (skip true v) else 0)) one ∙ ap (λ z. if z then suc (skip true v) else 0) two

pub skip_blank : (b : ℕ) (v : List ℕ) → is_blank b ≡ true → skip false (b ∷ v) ≡ suc (skip false v)
unfolding skip
skip_blank b v h = ap (λ z. if z then suc (skip false v) else (if b == 35 then suc (skip true v) else 0)) h

-- neither blanks nor a comment begin a token
no_token : (x : Context) (v : List ℕ) (p : Token × ℕ) → (token_at x (32 ∷ v) ≡ Some p → ⊥) × (token_at x (9 ∷ v) ≡ Some p → ⊥) × (token_at x (13 ∷ v) ≡ Some p → ⊥) × (token_at x (10 ∷ v) ≡ Some p → ⊥) × (token_at x (35 ∷ v) ≡ Some p → ⊥)
unfolding token_at
no_token x [] p = (λ e. absurd (cc), λ e. absurd (cc), λ e. absurd (cc), λ e. absurd (cc), λ e. absurd (cc))
no_token x (c ∷ v) p = (λ e. absurd (cc), λ e. absurd (cc), λ e. absurd (cc), λ e. absurd (cc), λ e. absurd (cc))

-- where a token is found, a byte begins it
pub record Begins (s : List ℕ) : Type 0 where
  pub first : ℕ
  pub more : List ℕ
  pub is : s ≡ first ∷ more
  pub solid_first : solid first ≡ true

pub begins : (x : Context) (s : List ℕ) (p : Token × ℕ) → token_at x s ≡ Some p → Begins s
unfolding token_at
begins x [] p e = absurd (cc)
begins x (b ∷ v) p e = record { first = b; more = v; is = refl; solid_first = at (is_blank b) (b == 35) refl refl }
  where
    at : (z c : Bool) → is_blank b ≡ z → (b == 35) ≡ c → (not z && not c) ≡ true
    at true c h u = let n = no_token x v p in absurd (blank_case (λ k. token_at x (k ∷ v) ≡ Some p → ⊥) b h n.0 n.1 n.2 n.3 e)
    at false true h u = absurd ((no_token x v p).4 (ap (λ k. token_at x (k ∷ v)) (sym (eqb-true b 35 u)) ∙ e))
    at false false h u = refl

pub no_skip : (x : Context) (s : List ℕ) (p : Token × ℕ) → token_at x s ≡ Some p → skip false s ≡ 0
no_skip x s p e = let h = begins x s p e in ap (skip false) h.is ∙ skip_solid h.first h.more h.solid_first

-- and is part of it
some_bytes : (w s : List ℕ) → Begins (w ++ s) → Apart s → 0 < length w
some_bytes [] [] h u = absurd (cc)
some_bytes [] (c ∷ s) h u =
    let same : h.first ≡ c = cc in
    let no : solid c ≡ false = ap (λ z. not z && not (c == 35)) u in
    let yes : solid c ≡ true = ap solid (sym same) ∙ h.solid_first in
    absurd (cc)
some_bytes (b ∷ w) s h u = omega arith

-- where a literal, or the end of a list, comes first
literal_byte : (b : ℕ) (v : List ℕ) → (is_digit b || b == 45) ≡ true → begins_literals (b ∷ v) ≡ true
literal_byte b v h = grind (arith, nat_tests, h)

quote_literal : (z : Bool) (v : List ℕ) → begins_literals ((if z then 39 else 34) ∷ v) ≡ true
quote_literal true v = refl
quote_literal false v = refl

number_literal : (n : Num) (rest : List ℕ) → IsHeld n → begins_literals (number_text n ++ rest) ≡ true
number_literal n rest h = let r = number_lexes n [] h tt in ap (λ l. begins_literals (l ++ rest)) r.is ∙ literal_byte r.first (r.more ++ rest) r.starts

at_once : (s : List ℕ) (p : Token × ℕ) → token_at start s ≡ Some p → begins_literals s ≡ true → begins_literals (drop (skip false s) s) ≡ true
at_once s p e h = ap (λ k. begins_literals (drop k s)) (no_skip start s p e) ∙ h

first_token : (y : Token) (ts : List Token) (rest : List ℕ) → Fit y → IsWritten y → Apart rest → first_literal (y ∷ ts) ≡ true → begins_literals (drop (skip false (written y ++ rest)) (written y ++ rest)) ≡ true
first_token (t.Quoted s) ts rest h w u e = at_once (string s ++ rest) _ (quoted_reads start s rest h) (quote_literal (has_quote false s) ((s ++ quote_of s ∷ []) ++ rest))
first_token (t.Number n s) ts rest h w u e = subst (λ l. begins_literals (drop (skip false (l ++ rest)) (l ++ rest)) ≡ true) (sym w) (at_once (number_text n ++ rest) _ (number_reads start n rest h.0 u) (number_literal n rest h.0))
first_token t.CloseBracket ts rest h w u e = ap (λ k. begins_literals (drop k (93 ∷ rest))) (skip_solid 93 rest refl)
first_token y ts rest h w u e = absurd (cc)

-- ---- blanks

gap_blanks : (m : List ℕ) → IsGap m → AreBlanks m
gap_blanks [] h = absurd h
gap_blanks (b ∷ m) h = h

gap_apart : (m s : List ℕ) → IsGap m → Apart (m ++ s)
gap_apart [] s h = absurd h
gap_apart (b ∷ m) s h = h.0

begins_behind : (m s : List ℕ) → AreBlanks m → begins_literals (drop (skip false (m ++ s)) (m ++ s)) ≡ begins_literals (drop (skip false s) s)
begins_behind [] s h = refl
begins_behind (b ∷ m) s h = ap (λ k. begins_literals (drop k (b ∷ (m ++ s)))) (skip_blank b (m ++ s) h.0) ∙ begins_behind m s h.1

-- ---- a token with what stands behind it

-- the text of the pieces, and a newline
abbrev behind : List Piece → List ℕ
behind [] = 10 ∷ []
behind (p ∷ ps) = p.0 ++ (written p.1 ++ behind ps)

text_behind : (ps : List Piece) → text_of ps ++ 10 ∷ [] ≡ behind ps
text_behind [] = refl
text_behind (p ∷ ps) = append_assoc p.0 (written p.1 ++ text_of ps) (10 ∷ []) ∙ ap (λ s. p.0 ++ s) (append_assoc (written p.1) (text_of ps) (10 ∷ []) ∙ ap (λ s. written p.1 ++ s) (text_behind ps))

apart : (ps : List Piece) → AllOf (Fine Fit) ps → Apart (behind ps)
apart [] f = refl
apart (p ∷ ps) f = gap_apart p.0 (written p.1 ++ behind ps) f.0.0

first_there : (ps : List Piece) → first_literal (tokens_of ps) ≡ true → AllOf (Fine Fit) ps → begins_literals (drop (skip false (behind ps)) (behind ps)) ≡ true
first_there [] e f = absurd (cc)
first_there (p ∷ ps) e f = begins_behind p.0 (written p.1 ++ behind ps) (gap_blanks p.0 f.0.0) ∙ first_token p.1 (tokens_of ps) (behind ps) f.0.2 f.0.1 (apart ps f.1) e

token_reads : (x : Context) (y : Token) (ps : List Piece) (s : List ℕ) → Fit y → AllOf (Fine Fit) ps → IsWritten y → Suits x y (tokens_of ps) → behind ps ≡ s → Apart s → Takes x y s
unfolding token_at
token_reads x (t.Word a) ps s h f w i l u = word_reads x a s h u
token_reads x (t.Dashed a) ps s h f w i l u = dashed_reads x a s h i u
token_reads x (t.Quoted a) ps s h f w i l u = quoted_reads x a s h
token_reads x (t.Number n a) ps s h f w i l u = subst (λ k. Takes x (t.Number n k) s) (sym w) (number_reads x n s h.0 u)
token_reads x (t.Regexp a) ps s h f w i l u = regexp_reads x a s h
token_reads x (t.Selector parts) ps s h f w i l u = selector_reads x parts s h i u
token_reads x t.OpenBracket ps s h f w (inl e) l u = list_reads x s (inl e)
token_reads x t.OpenBracket ps s h f w (inr e) l u = list_reads x s (inr (subst (λ v. begins_literals (drop (skip false v) v) ≡ true) l (first_there ps e f)))
token_reads x t.OpenBrace ps s h f w i l u = single_reads x t.OpenBrace 123 s (λ v. refl) refl (refl, refl, refl, refl) u
token_reads x t.CloseBrace ps s h f w i l u = single_reads x t.CloseBrace 125 s (λ v. refl) refl (refl, refl, refl, refl) u
token_reads x t.CloseBracket ps s h f w i l u = single_reads x t.CloseBracket 93 s (λ v. refl) refl (refl, refl, refl, refl) u
token_reads x t.OpenParen ps s h f w i l u = single_reads x t.OpenParen 40 s (λ v. refl) refl (refl, refl, refl, refl) u
token_reads x t.CloseParen ps s h f w i l u = single_reads x t.CloseParen 41 s (λ v. refl) refl (refl, refl, refl, refl) u
token_reads x t.Comma ps s h f w i l u = single_reads x t.Comma 44 s (λ v. refl) refl (refl, refl, refl, refl) u
token_reads x t.Exclamation ps s h f w i l u = single_reads x t.Exclamation 33 s (λ v. refl) refl (refl, refl, refl, refl) u
token_reads x t.Arrow ps s h f w i l u = refl
token_reads x (t.Comparison j) ps s h f w i l u = compared_reads x j s u
token_reads x (t.Matching j) ps s h f w i l u = matched_reads x j s
token_reads x t.Unreadable ps s h f w i l u = absurd w

pub scan_nil : (n : ℕ) (x : Context) → scan n x [] ≡ []
unfolding scan
scan_nil zero x = refl
scan_nil (suc n) x = ap (λ s. scan_next x s (λ y r. scan n y r)) (drop_all (skip false []) [] (omega arith))

scan_blank : (n : ℕ) (x : Context) (b : ℕ) (s : List ℕ) → is_blank b ≡ true → scan n x (b ∷ s) ≡ scan n x s
unfolding scan
scan_blank zero x b s h = refl
scan_blank (suc n) x b s h = ap (λ k. scan_next x (drop k (b ∷ s)) (λ y r. scan n y r)) (skip_blank b s h)

pub scan_token : (m : ℕ) (x : Context) (y : Token) (w s : List ℕ) → token_at x (w ++ s) ≡ Some (y, length w) → scan (suc m) x (w ++ s) ≡ y ∷ scan m (after_token x y) s
unfolding scan
scan_token m x y w s e =
    let v = w ++ s in
    let go = λ (z : Context) (r : List ℕ). scan m z r in
    let h = begins x v (y, length w) e in
    ap (λ k. scan_next x (drop k v) go) (no_skip x v (y, length w) e) ∙ ap (λ l. scan_next x l go) h.is ∙ ap (λ l. scanned (token_at x l) l x go) (sym h.is) ∙ ap (λ o. scanned o v x go) e
    ∙ ap (λ l. y ∷ scan m (after_token x y) l) (drop-append_seam w s)

scan_blanks : (n : ℕ) (x : Context) (m s : List ℕ) → AreBlanks m → scan n x (m ++ s) ≡ scan n x s
scan_blanks n x [] s h = refl
scan_blanks n x (b ∷ m) s h = scan_blank n x b (m ++ s) h.0 ∙ scan_blanks n x m s h.1

-- a token, where there are turns enough for what follows
scan_one : (n : ℕ) (x : Context) (y : Token) (s : List ℕ) (ts : List Token) → token_at x (written y ++ s) ≡ Some (y, length (written y)) → Apart s → length (written y ++ s) ≤ n
    → ((m : ℕ) → length s ≤ suc m → scan m (after_token x y) s ≡ ts) → scan n x (written y ++ s) ≡ y ∷ ts
scan_one zero x y s ts e u l again = absurd (omega (arith, some_bytes (written y) s (begins x (written y ++ s) (y, length (written y)) e) u, length-append (written y) s))
scan_one (suc m) x y s ts e u l again = scan_token m x y (written y) s e ∙ ap (λ r. y ∷ r) (again m (omega (arith, length-append (written y) s)))

gap_some : (m : List ℕ) → IsGap m → 0 < length m
gap_some [] h = absurd h
gap_some (b ∷ m) h = omega arith

lex : (ps : List Piece) (x : Context) → AllOf (Fine Fit) ps → Placed x (tokens_of ps) → (n : ℕ) → length (behind ps) ≤ suc n → scan n x (behind ps) ≡ tokens_of ps
lex [] x f p n l = scan_blank n x 10 [] refl ∙ scan_nil n x
lex (q ∷ ps) x f p n l =
    scan_blanks n x q.0 (written q.1 ++ behind ps) (gap_blanks q.0 f.0.0)
    ∙ scan_one n x q.1 (behind ps) (tokens_of ps) (token_reads x q.1 ps (behind ps) f.0.2 f.1 f.0.1 p.0 refl (apart ps f.1)) (apart ps f.1)
    (omega (arith, gap_some q.0 f.0.0, length-append q.0 (written q.1 ++ behind ps))) (λ m k. lex ps (after_token x q.1) f.1 p.1 m k)

-- the first blank makes no difference
scan_front : (n : ℕ) (x : Context) (m s : List ℕ) → IsGap m → scan n x (drop 1 (m ++ s)) ≡ scan n x (m ++ s)
scan_front n x [] s h = absurd h
scan_front n x (b ∷ m) s h = sym (scan_blank n x b (m ++ s) h.0)

front : (ps : List Piece) → AllOf (Fine Fit) ps → (n : ℕ) (x : Context) → scan n x (drop 1 (behind ps)) ≡ scan n x (behind ps)
front [] f n x = scan_front n x (10 ∷ []) [] (refl, tt)
front (p ∷ ps) f n x = scan_front n x p.0 (written p.1 ++ behind ps) f.0.0

-- pieces that are fine and stand where they may have these tokens as a text
pub laid_tokens : (ps : List Piece) → AllOf (Fine Fit) ps → Placed start (tokens_of ps) → tokens (lines_text ps) ≡ tokens_of ps
laid_tokens ps f p =
    let s = drop 1 (behind ps) in
    ap (λ l. tokens (drop 1 l)) (text_behind ps) ∙ tokens_scanned s ∙ front ps f (length s) start ∙ lex ps start f p (length s) (omega (arith, length-drop 1 (behind ps)))
