-- What holds of each piece that is printed: blanks stand in front, and the token passes a test.
use Rattle.std.proofs.Common.{◌≡◌, ℕ, zero, suc, List, [], ◌∷◌, ◌++◌, Bool, true, false, if◌then◌else◌, refl, sym, subst, append_assoc, nat_eq}
use Rattle.std.specs.List.{list_any}
use Rattle.event_json.specs.Json.{number_text}
use Rattle.config_lex.specs.declared.token.Token.{Token}
use Rattle.config_lex.specs.declared.token.Token.TheVariants as t
use Rattle.config_lex.specs.Bytes.{is_blank}
use Rattle.config_lex.specs.Lexemes.{word_of}
use Rattle.config_print.specs.Tokens.{is_word, is_branch_word, name_token, plugin_token}
use Rattle.config_print.specs.Layout.{Piece, spaced, tokens_of}
use Rattle.config_print.specs.declared.values.Indent.{Indent}
use Rattle.config_print.specs.declared.values.Indent.TheVariants as line
use Rattle.config_print.specs.Printed.{indentation, gap}
use Rattle.config_print.proofs.Layouts.{tokens_both}

-- a test of each member of a list
abbrev pub AllOf : {A : Type 0} → (A → Type 0) → List A → Type 0
AllOf Ok [] = Unit {0}
AllOf Ok (y ∷ ts) = Ok y × AllOf Ok ts

pub first_of_all : {A : Type 0} (Ok : A → Type 0) (a b : List A) → AllOf Ok (a ++ b) → AllOf Ok a
first_of_all Ok [] b h = tt
first_of_all Ok (y ∷ a) b h = (h.0, first_of_all Ok a b h.1)

pub last_of_all : {A : Type 0} (Ok : A → Type 0) (a b : List A) → AllOf Ok (a ++ b) → AllOf Ok b
last_of_all Ok [] b h = h
last_of_all Ok (y ∷ a) b h = last_of_all Ok a b h.1

pub all_of_both : {A : Type 0} (Ok : A → Type 0) (a b : List A) → AllOf Ok a → AllOf Ok b → AllOf Ok (a ++ b)
all_of_both Ok [] b h u = u
all_of_both Ok (y ∷ a) b h u = (h.0, all_of_both Ok a b h.1 u)

-- blanks, of which there is one at least
abbrev pub AreBlanks : List ℕ → Type 0
AreBlanks [] = Unit {0}
AreBlanks (b ∷ m) = (is_blank b ≡ true) × AreBlanks m

abbrev pub IsGap : List ℕ → Type 0
IsGap [] = ⊥
IsGap (b ∷ m) = (is_blank b ≡ true) × AreBlanks m

indentation_blanks : (n : ℕ) → AreBlanks (indentation n)
indentation_blanks zero = tt
indentation_blanks (suc n) = (refl, (refl, indentation_blanks n))

pub gap_is : (m : Indent) → IsGap (gap m)
gap_is line.OneLine = (refl, tt)
gap_is (line.Level n) = (refl, indentation_blanks n)

-- a number is written by its one text
abbrev pub IsWritten : Token → Type 0
IsWritten (t.Number n s) = s ≡ number_text n
IsWritten t.Unreadable = ⊥
IsWritten y = Unit {0}

pub name_is_written : (s : List ℕ) → IsWritten (name_token s)
name_is_written s = at (is_word true s) (list_any (λ b. nat_eq b 45) s)
  where
    at : (z dash : Bool) → IsWritten (if z then (if dash then t.Dashed s else t.Word (word_of s)) else t.Quoted s)
    at false dash = tt
    at true true = tt
    at true false = tt

pub plugin_is_written : (s : List ℕ) → IsWritten (plugin_token s)
plugin_is_written s = at (is_branch_word s)
  where
    at : (z : Bool) → IsWritten (if z then t.Quoted s else name_token s)
    at true = tt
    at false = name_is_written s

module _ (Ok : Token → Type 0) where
  abbrev pub Fine : Piece → Type 0
  Fine p = IsGap p.0 × IsWritten p.1 × Ok p.1

  -- behind one blank
  pub fine : (y : Token) → IsWritten y → Ok y → Fine (spaced y)
  fine y w o = ((refl, tt), w, o)

  -- Pieces whose tokens are such ones, each of them fine.
  abbrev pub Printed : (List Token → Type 0) → List Piece → Type 0
  Printed P ps = P (tokens_of ps) × AllOf Fine ps

  pub two : (P : List Token → Type 0) (a b : List Piece) → P (tokens_of a ++ tokens_of b) → AllOf Fine a → AllOf Fine b → Printed P (a ++ b)
  two P a b h u r = (subst P (sym (tokens_both a b)) h, all_of_both Fine a b u r)

  pub three : (P : List Token → Type 0) (a b c : List Piece) → P (tokens_of a ++ tokens_of (b ++ c)) → AllOf Fine a → AllOf Fine (b ++ c) → Printed P ((a ++ b) ++ c)
  three P a b c h u r = subst (Printed P) (sym (append_assoc a b c)) (two P a (b ++ c) h u r)
