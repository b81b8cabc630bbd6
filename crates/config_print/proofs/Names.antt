-- How the tokens of names are written.
use Rattle.std.proofs.Common.{◌≡◌, ℕ, List, [], ◌∷◌, ◌&&◌, ◌||◌, Bool, true, false, if◌then◌else◌, arith, refl, ap, sym, ◌∙◌, bytes_eq, codes, nat_eq}
use Rattle.std.proofs.lemmas.Bool.{and_parts, and_from, cond_both}
use Rattle.std.specs.List.{list_all, list_any}
use Rattle.std.proofs.lemmas.Bool.Decides.{nat_tests}
use Rattle.std.proofs.lemmas.Slice.Eq.{bytes_eq-Decides}
use Rattle.config_lex.specs.declared.token.Token.TheVariants as t
use Rattle.config_lex.specs.declared.token.Word.{Word}
use Rattle.config_lex.specs.declared.token.Word.TheVariants as w
use Rattle.config_lex.specs.declared.token.Section.TheVariants as kind
use Rattle.config_tree.specs.declared.operators.Conjunction.TheVariants as and
use Rattle.config_tree.specs.declared.operators.Disjunction.TheVariants as or
use Rattle.event_tree.specs.NumberTexts.{is_digit}
use Rattle.config_lex.specs.Bytes.{is_letter, is_in_word}
use Rattle.config_lex.specs.Lexemes.{word_of, other_word}
use Rattle.config_print.specs.Tokens.{bare, is_word, string, word_text, written, name_token, plugin_token, is_branch_word}

-- What is said of each word by itself is said of the word of a text. First those but `if` and `else`.
choose : {X : Type 0} (f : Word → X) (g : List ℕ → X) (s spelled : List ℕ) (a other : Word) → f a ≡ g spelled → f other ≡ g s → f (if bytes_eq s spelled then a else other) ≡ g s
choose f g s spelled a other h u = cond_both (bytes_eq s spelled) a other (λ x. f x ≡ g s) (λ is. h ∙ ap g (sym ((bytes_eq-Decides s spelled).0 is))) (λ _. u)

abbrev pub Agrees : {X : Type 0} → (Word → X) → (List ℕ → X) → Type 0
Agrees f g =
    (f w.In ≡ g (codes "in")) × (f w.Not ≡ g (codes "not")) × (f (w.Conjunction and.And) ≡ g (codes "and")) × (f (w.Conjunction and.Nand) ≡ g (codes "nand"))
    × (f (w.Disjunction or.Or) ≡ g (codes "or")) × (f (w.Disjunction or.Xor) ≡ g (codes "xor")) × (f (w.Section kind.Input) ≡ g (codes "input"))
    × (f (w.Section kind.Filter) ≡ g (codes "filter")) × (f (w.Section kind.Output) ≡ g (codes "output")) × ((s : List ℕ) → f (w.Other s) ≡ g s)

pub other_agrees : {X : Type 0} (f : Word → X) (g : List ℕ → X) (s : List ℕ) → Agrees f g → f (other_word s) ≡ g s
other_agrees f g s h =
    choose f g s (codes "in") w.In _ h.0
    (choose f g s (codes "not") w.Not _ h.1
    (choose f g s (codes "and") (w.Conjunction and.And) _ h.2
    (choose f g s (codes "nand") (w.Conjunction and.Nand) _ h.3
    (choose f g s (codes "or") (w.Disjunction or.Or) _ h.4
    (choose f g s (codes "xor") (w.Disjunction or.Xor) _ h.5
    (choose f g s (codes "input") (w.Section kind.Input) _ h.6
    (choose f g s (codes "filter") (w.Section kind.Filter) _ h.7
    (choose f g s (codes "output") (w.Section kind.Output) (w.Other s) h.8 (h.9 s)))))))))

pub word_agrees : {X : Type 0} (f : Word → X) (g : List ℕ → X) (s : List ℕ) → f w.If ≡ g (codes "if") → f w.Else ≡ g (codes "else") → Agrees f g → f (word_of s) ≡ g s
word_agrees f g s h u r = choose f g s (codes "if") w.If _ h (choose f g s (codes "else") w.Else (other_word s) u (other_agrees f g s r))

pub word_written : (s : List ℕ) → word_text (word_of s) ≡ bare false s
word_written s = word_agrees word_text (bare false) s refl refl (refl, refl, refl, refl, refl, refl, refl, refl, refl, λ a. refl)

-- where no dash stands, none is wanted
in_word_bare : (s : List ℕ) → list_all (is_in_word true) s ≡ true → list_any (λ b. nat_eq b 45) s ≡ false → list_all (is_in_word false) s ≡ true
in_word_bare [] h u = refl
in_word_bare (b ∷ s) h u = at (is_letter b) (is_digit b) (nat_eq b 45) h u (in_word_bare s)
  where
    at : (l d m : Bool) → ((l || d || (true && m)) && list_all (is_in_word true) s) ≡ true → (m || list_any (λ b. nat_eq b 45) s) ≡ false
        → (list_all (is_in_word true) s ≡ true → list_any (λ b. nat_eq b 45) s ≡ false → list_all (is_in_word false) s ≡ true)
        → ((l || d || (false && m)) && list_all (is_in_word false) s) ≡ true
    at true d true h u again = absurd (cc)
    at true d false h u again = again h u
    at false true true h u again = absurd (cc)
    at false true false h u again = again h u
    at false false true h u again = absurd (cc)
    at false false false h u again = absurd (cc)

letter_no_dash : (b : ℕ) → is_letter b ≡ true → nat_eq b 45 ≡ false
letter_no_dash b h = grind (arith, nat_tests)

-- a word without a dash
pub word_bare : (s : List ℕ) → is_word true s ≡ true → list_any (λ b. nat_eq b 45) s ≡ false → is_word false s ≡ true
word_bare [] h u = absurd (cc)
word_bare (b ∷ s) h u =
    let l = (and_parts (is_letter b) (list_all (is_in_word true) s) h).0 in
    and_from (is_letter b) (list_all (is_in_word false) s) l
    (in_word_bare s (and_parts (is_letter b) (list_all (is_in_word true) s) h).1 (sym (ap (λ z. z || list_any (λ b. nat_eq b 45) s) (letter_no_dash b l)) ∙ u))

pub name_written : (s : List ℕ) → written (name_token s) ≡ bare true s
name_written s = at (is_word true s) (list_any (λ b. nat_eq b 45) s) refl refl
  where
    at : (z dash : Bool) → is_word true s ≡ z → list_any (λ b. nat_eq b 45) s ≡ dash → written (if z then (if dash then t.Dashed s else t.Word (word_of s)) else t.Quoted s) ≡ (if z then s else string s)
    at false dash e u = refl
    at true true e u = refl
    at true false e u = word_written s ∙ ap (λ b. if b then s else string s) (word_bare s e u)

pub plugin_written : (s : List ℕ) → written (plugin_token s) ≡ (if is_branch_word s then string s else written (name_token s))
plugin_written s = at (is_branch_word s)
  where
    at : (z : Bool) → written (if z then t.Quoted s else name_token s) ≡ (if z then string s else written (name_token s))
    at true = refl
    at false = refl
