-- What the lexer takes for a token can be written again.
use Rattle.std.proofs.Common.{◌≡◌, ℕ, suc, ◌+◌, ◌==◌, ◌&&◌, ◌||◌, not, List, [], ◌∷◌, ◌++◌, length, take, drop, Option, Some, None, option_map, Bool, true, false, if◌then◌else◌, refl, ap, subst, ◌∙◌, arith, nat_eq}
use Rattle.std.proofs.lemmas.Bool.{not-true, and_parts, and_from, cond_both}
use Rattle.std.specs.List.{list_all, list_any}
use Rattle.std.proofs.lemmas.Bool.Decides.{nat_tests}
use Rattle.std.proofs.Math.Seq.{take-append_seam}
use Rattle.event_tree.specs.Number.{Num}
use Rattle.event_json.specs.Json.{number_text}
use Rattle.config_lex.specs.declared.token.Token.{Token}
use Rattle.config_lex.specs.declared.token.Token.TheVariants as t
use Rattle.config_lex.specs.declared.token.Word.{Word}
use Rattle.config_lex.specs.declared.token.Word.TheVariants as w
use Rattle.config_tree.specs.declared.operators.Conjunction.TheVariants as and
use Rattle.config_tree.specs.declared.operators.Disjunction.TheVariants as or
use Rattle.config_lex.specs.declared.token.Section.TheVariants as kind
use Rattle.config_tree.specs.declared.operators.Comparison.TheVariants as is
use Rattle.config_tree.specs.declared.operators.Matching.TheVariants as matching
use Rattle.config_lex.specs.declared.context.Context.{Context}
use Rattle.config_lex.specs.Bytes.{passing, skip, closing, unescaped, is_letter, is_in_word, number_length, number_of, begins_number}
use Rattle.config_parse.specs.Words.{spelling, setting_name, plugin_name}
use Rattle.config_lex.specs.Lexemes.{Found, word_of, word_token, word_at, number_at, quoted_at, regexp_at, bracket_at, selector_of, parts_at, begins_literals, sign_at, double, single, longer, token_at}
use Rattle.config_print.proofs.Good.{is_sign, Lawful}
use Rattle.config_print.proofs.PrintedNames.{word_spelled}
use Rattle.config_print.specs.Tokens.{is_word, name_token}
use Rattle.config_print.proofs.Names.{word_bare}
use Rattle.config_print.proofs.Strings.{is_plain, ArePlain, Between, plain_between, quoted_between, ends_escaped, none_before, ends_like}
use Rattle.config_print.proofs.Words.{run_passes, in_word_more, letter_in_word, SelectorFits, selector_from}
use Rattle.config_print.proofs.Numbers.{IsHeld, read_held, number_plain, number_lexes}

-- a token that can be written, so that the lexer takes it for itself
abbrev pub Fit : Token → Type 0
Fit (t.Word a) = (is_word false (spelling a) ≡ true) × (word_of (spelling a) ≡ a)
Fit (t.Dashed s) = (is_word true s ≡ true) × (list_any (λ b. nat_eq b 45) s ≡ true)
Fit (t.Quoted s) = Between s
Fit (t.Number n s) = IsHeld n × ArePlain s
Fit (t.Regexp s) = ends_escaped false s ≡ false
Fit (t.Selector parts) = SelectorFits parts
Fit y = Unit {0}

-- ---- a test that printed tokens pass

in_word_plain : (b : ℕ) → is_in_word true b ≡ true → is_plain b ≡ true
in_word_plain b h = grind (arith, nat_tests)

words_plain : (s : List ℕ) → list_all (is_in_word true) s ≡ true → ArePlain s
words_plain [] h = tt
words_plain (b ∷ s) h = (in_word_plain b (and_parts (is_in_word true b) (list_all (is_in_word true) s) h).0, words_plain s (and_parts (is_in_word true b) (list_all (is_in_word true) s) h).1)

letter_plain : (b : ℕ) → is_letter b ≡ true → is_plain b ≡ true
letter_plain b h = grind (arith, nat_tests)

word_plain : (s : List ℕ) → is_word true s ≡ true → ArePlain s
word_plain [] h = absurd (cc)
word_plain (b ∷ s) h = (letter_plain b (and_parts (is_letter b) (list_all (is_in_word true) s) h).0, words_plain s (and_parts (is_letter b) (list_all (is_in_word true) s) h).1)

pub word_more : (s : List ℕ) → is_word false s ≡ true → is_word true s ≡ true
word_more [] h = absurd (cc)
word_more (b ∷ s) h = and_from (is_letter b) (list_all (is_in_word true) s) (and_parts (is_letter b) (list_all (is_in_word false) s) h).0 (in_word_more s (and_parts (is_letter b) (list_all (is_in_word false) s) h).1)

pub spelled : (s : List ℕ) → spelling (word_of s) ≡ s
spelled s = let h : Some (spelling (word_of s)) ≡ Some s = word_spelled s in cc

word_fits : (s : List ℕ) → is_word false s ≡ true → Fit (t.Word (word_of s))
word_fits s h = (ap (is_word false) (spelled s) ∙ h, ap word_of (spelled s))

-- what a word is made of
pub word_token_fits : (s : List ℕ) → is_word true s ≡ true → Fit (word_token s)
word_token_fits s h = at (list_any (λ b. nat_eq b 45) s) refl
  where
    at : (z : Bool) → list_any (λ b. nat_eq b 45) s ≡ z → Fit (if z then t.Dashed s else t.Word (word_of s))
    at true e = (h, e)
    at false e = word_fits s (word_bare s h e)

name_fits : (s : List ℕ) → Between s → Fit (name_token s)
name_fits s h = at (is_word true s) refl
  where
    at : (z : Bool) → is_word true s ≡ z → Fit (if z then word_token s else t.Quoted s)
    at true e = word_token_fits s e
    at false e = h

text_of_word : (a : Word) → Fit (t.Word a) → Between (spelling a)
text_of_word a h = plain_between (spelling a) (word_plain (spelling a) (word_more (spelling a) h.0))

named_between : (y : Token) (k : List ℕ) → setting_name y ≡ Some k → Fit y → Between k
named_between (t.Word a) k e h = let same : spelling a ≡ k = cc in subst Between same (text_of_word a h)
named_between (t.Dashed s) k e h = let same : s ≡ k = cc in subst Between same (plain_between s (word_plain s h.0))
named_between (t.Quoted s) k e h = let same : s ≡ k = cc in subst Between same h
named_between y k e h = absurd (cc)

plugin_is_setting : (y : Token) (k : List ℕ) → plugin_name y ≡ Some k → setting_name y ≡ Some k
plugin_is_setting (t.Word w.If) k e = absurd (cc)
plugin_is_setting (t.Word w.Else) k e = absurd (cc)
plugin_is_setting y k e = e

plugin_fits : (s : List ℕ) (z : Bool) → Between s → Fit (if z then t.Quoted s else name_token s)
plugin_fits s true h = h
plugin_fits s false h = name_fits s h

sign_fits : (y : Token) → is_sign y ≡ true → Fit y
sign_fits (t.Word (w.Other s)) e = absurd (cc)
sign_fits (t.Word w.If) e = (refl, refl)
sign_fits (t.Word w.Else) e = (refl, refl)
sign_fits (t.Word w.In) e = (refl, refl)
sign_fits (t.Word w.Not) e = (refl, refl)
sign_fits (t.Word (w.Conjunction and.And)) e = (refl, refl)
sign_fits (t.Word (w.Conjunction and.Nand)) e = (refl, refl)
sign_fits (t.Word (w.Disjunction or.Or)) e = (refl, refl)
sign_fits (t.Word (w.Disjunction or.Xor)) e = (refl, refl)
sign_fits (t.Word (w.Section kind.Input)) e = (refl, refl)
sign_fits (t.Word (w.Section kind.Filter)) e = (refl, refl)
sign_fits (t.Word (w.Section kind.Output)) e = (refl, refl)
sign_fits (t.Dashed s) e = absurd (cc)
sign_fits (t.Quoted s) e = absurd (cc)
sign_fits (t.Number n s) e = absurd (cc)
sign_fits (t.Regexp s) e = absurd (cc)
sign_fits (t.Selector parts) e = absurd (cc)
sign_fits y e = tt

number_fits : (n : Num) → IsHeld n → Fit (t.Number n (number_text n))
number_fits n h =
    let s = number_text n in
    let goes = (number_lexes n [] h tt).goes in
    (h, subst ArePlain (ap (λ k. take k (s ++ [])) goes ∙ take-append_seam s []) (number_plain (s ++ [])))

pub lawful : Lawful Fit
lawful = record {
  sign = sign_fits;
  text = text_of_word;
  word = λ a h. word_fits (spelling a) h.0;
  number = λ n s h. number_fits n h.0;
  number_key = λ n s h. plain_between s h.1;
  name = λ y k e h. name_fits k (named_between y k e h);
  plugin = λ y k e h. plugin_fits k _ (named_between y k (plugin_is_setting y k e) h);
}

-- ---- and that tokens of a text pass

abbrev pub Found_fits : Found → Type 0
Found_fits None = Unit {0}
Found_fits (Some p) = Fit p.0

word_taken : (dashes : Bool) (b : ℕ) (s : List ℕ) → is_letter b ≡ true → is_word true (take (passing (is_in_word dashes) (b ∷ s)) (b ∷ s)) ≡ true
unfolding passing
word_taken dashes b s h =
    ap (λ z. is_word true (take (if z then suc (passing (is_in_word dashes) s) else 0) (b ∷ s))) (letter_in_word dashes b h)
    ∙ and_from (is_letter b) (list_all (is_in_word true) (take (passing (is_in_word dashes) s) s)) h (by dashes)
  where
    by : (d : Bool) → list_all (is_in_word true) (take (passing (is_in_word d) s) s) ≡ true
    by true = run_passes (is_in_word true) s
    by false = in_word_more (take (passing (is_in_word false) s) s) (run_passes (is_in_word false) s)

number_found : (s : List ℕ) → Found_fits (number_at s)
number_found s = at (number_of (take (number_length s) s)) refl
  where
    at : (o : Option Num) → number_of (take (number_length s) s) ≡ o → Found_fits (option_map (λ value. (t.Number value (take (number_length s) s), number_length s)) o)
    at None e = tt
    at (Some n) e = (read_held (take (number_length s) s) n e, number_plain s)

quoted_found : (b : ℕ) (s : List ℕ) → (b == 34 || b == 39) ≡ true → Found_fits (quoted_at b s)
quoted_found b s h = at (closing b false s) refl
  where
    at : (o : Option ℕ) → closing b false s ≡ o → Found_fits (option_map (λ n. (t.Quoted (take n s), n + 2)) o)
    at None e = tt
    at (Some n) e = quoted_between b s n h e

regexp_found : (s : List ℕ) → Found_fits (regexp_at s)
regexp_found s = at (closing 47 false s) refl
  where
    at : (o : Option ℕ) → closing 47 false s ≡ o → Found_fits (option_map (λ n. (t.Regexp (unescaped (take n s)), n + 2)) o)
    at None e = tt
    at (Some n) e = ends_like false (take n s) (none_before 47 false s n e).1

selector_found : (s : List ℕ) (parts : List (List ℕ)) → parts_at (length s) [] s ≡ parts → begins_literals (drop (skip false (drop 1 s)) (drop 1 s)) ≡ false → Found_fits (selector_of parts)
selector_found s [] e h = tt
selector_found s (p ∷ ps) e h = selector_from (length s) s p ps e h

bracket_found : (operand : Bool) (b : ℕ) (s : List ℕ) → Found_fits (bracket_at operand (b ∷ s))
bracket_found operand b s = cond_both (operand && not (begins_literals (drop (1 + skip false s) (b ∷ s)))) (selector_of (parts_at (length (b ∷ s)) [] (b ∷ s))) (Some (t.OpenBracket, 1)) Found_fits selector (λ e. tt)
  where
    selector : (operand && not (begins_literals (drop (1 + skip false s) (b ∷ s)))) ≡ true → Found_fits (selector_of (parts_at (length (b ∷ s)) [] (b ∷ s)))
    selector e =
        let one : suc (skip false s) ≡ 1 + skip false s = omega arith in
        selector_found (b ∷ s) (parts_at (length (b ∷ s)) [] (b ∷ s)) refl
        (ap (λ k. begins_literals (drop k (b ∷ s))) one ∙ not-true (begins_literals (drop (1 + skip false s) (b ∷ s))) (and_parts operand (not (begins_literals (drop (1 + skip false s) (b ∷ s)))) e).1)

abbrev Sign : Option Token → Type 0
Sign None = Unit {0}
Sign (Some y) = is_sign y ≡ true

-- the first of several signs
or_else : (z : Bool) (y : Token) (o : Option Token) → is_sign y ≡ true → Sign o → Sign (if z then Some y else o)
or_else true y o h u = h
or_else false y o h u = u

double_sign : (b c : ℕ) → Sign (double b c)
double_sign b c =
    or_else (b == 61 && c == 62) t.Arrow _ refl (or_else (b == 61 && c == 61) (t.Comparison is.Equal) _ refl (or_else (b == 33 && c == 61) (t.Comparison is.Unequal) _ refl (or_else (b == 60 && c == 61) (t.Comparison is.AtMost) _ refl
    (or_else (b == 62 && c == 61) (t.Comparison is.AtLeast) _ refl (or_else (b == 61 && c == 126) (t.Matching matching.Matches) _ refl (or_else (b == 33 && c == 126) (t.Matching matching.MatchesNot) None refl tt))))))

single_sign : (b : ℕ) → Sign (single b)
single_sign b =
    or_else (b == 123) t.OpenBrace _ refl (or_else (b == 125) t.CloseBrace _ refl (or_else (b == 93) t.CloseBracket _ refl (or_else (b == 40) t.OpenParen _ refl (or_else (b == 41) t.CloseParen _ refl
    (or_else (b == 44) t.Comma _ refl (or_else (b == 33) t.Exclamation _ refl (or_else (b == 60) (t.Comparison is.Less) _ refl (or_else (b == 62) (t.Comparison is.Greater) None refl tt))))))))

longer_found : (o q : Option Token) → Sign o → Sign q → Found_fits (longer o q)
longer_found (Some y) q h u = sign_fits y h
longer_found None (Some y) h u = sign_fits y u
longer_found None None h u = tt

sign_found : (s : List ℕ) → Found_fits (sign_at s)
sign_found [] = tt
sign_found (b ∷ []) = longer_found None (single b) tt (single_sign b)
sign_found (b ∷ c ∷ s) = longer_found (double b c) (single b) (double_sign b c) (single_sign b)

-- what a token may be, where it is none of those before
abbrev pub behind_regexps : Context → ℕ → List ℕ → Found
behind_regexps x b s = if b == 91 then bracket_at x.at_operand (b ∷ s) else sign_at (b ∷ s)

abbrev pub behind_strings : Context → ℕ → List ℕ → Found
behind_strings x b s = if b == 47 then regexp_at s else behind_regexps x b s

abbrev pub behind_numbers : Context → ℕ → List ℕ → Found
behind_numbers x b s = if b == 34 || b == 39 then quoted_at b s else behind_strings x b s

abbrev pub behind_letters : Context → ℕ → List ℕ → Found
behind_letters x b s = if begins_number (b ∷ s) then number_at (b ∷ s) else behind_numbers x b s

-- a token that the lexer finds is fit
pub found_fits : (x : Context) (s : List ℕ) → Found_fits (token_at x s)
unfolding token_at
found_fits x [] = tt
found_fits x (b ∷ s) =
    cond_both (is_letter b) (word_at x.in_condition (b ∷ s)) (behind_letters x b s) Found_fits (λ e. word_token_fits (take (passing (is_in_word (not x.in_condition)) (b ∷ s)) (b ∷ s)) (word_taken (not x.in_condition) b s e))
    (λ e. cond_both (begins_number (b ∷ s)) (number_at (b ∷ s)) (behind_numbers x b s) Found_fits (λ e. number_found (b ∷ s))
    (λ e. cond_both (b == 34 || b == 39) (quoted_at b s) (behind_strings x b s) Found_fits (λ e. quoted_found b s e)
    (λ e. cond_both (b == 47) (regexp_at s) (behind_regexps x b s) Found_fits (λ e. regexp_found s) (λ e. cond_both (b == 91) (bracket_at x.at_operand (b ∷ s)) (sign_at (b ∷ s)) Found_fits (λ e. bracket_found x.at_operand b s) (λ e. sign_found (b ∷ s))))))
