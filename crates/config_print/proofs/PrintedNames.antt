-- The name that a token is printed for is the name that it reads as.
use Rattle.std.proofs.Common.{◌≡◌, ℕ, List, Option, Some, Bool, true, false, ◌||◌, if◌then◌else◌, refl, bytes_eq, codes, nat_eq}
use Rattle.std.specs.List.{list_any}
use Rattle.config_lex.specs.declared.token.Token.TheVariants as t
use Rattle.config_lex.specs.declared.token.Word.{Word}
use Rattle.config_lex.specs.declared.token.Word.TheVariants as w
use Rattle.config_parse.specs.Words.{bareword, setting_name, plugin_name}
use Rattle.config_lex.specs.Lexemes.{word_of, other_word}
use Rattle.config_print.specs.Tokens.{is_word, name_token, plugin_token}
use Rattle.config_print.proofs.Names.{other_agrees, word_agrees}

abbrev bare_word : Word → Option (List ℕ)
bare_word a = bareword (t.Word a)

abbrev plugin_word : Word → Option (List ℕ)
plugin_word a = plugin_name (t.Word a)

-- a word is spelled as it was
pub word_spelled : (s : List ℕ) → bareword (t.Word (word_of s)) ≡ Some s
word_spelled s = word_agrees bare_word Some s refl refl (refl, refl, refl, refl, refl, refl, refl, refl, refl, λ a. refl)

pub name_reads : (s : List ℕ) → setting_name (name_token s) ≡ Some s
name_reads s = at (is_word true s) (list_any (λ b. nat_eq b 45) s)
  where
    at : (b dash : Bool) → setting_name (if b then (if dash then t.Dashed s else t.Word (word_of s)) else t.Quoted s) ≡ Some s
    at false dash = refl
    at true true = refl
    at true false = word_spelled s

pub plugin_reads : (s : List ℕ) → plugin_name (plugin_token s) ≡ Some s
plugin_reads s = at (bytes_eq s (codes "if")) (bytes_eq s (codes "else")) (is_word true s) (list_any (λ b. nat_eq b 45) s)
  where
    at : (i e b dash : Bool) → plugin_name (if i || e then t.Quoted s else (if b then (if dash then t.Dashed s else t.Word (if i then w.If else (if e then w.Else else other_word s))) else t.Quoted s)) ≡ Some s
    at true e b dash = refl
    at false true b dash = refl
    at false false false dash = refl
    at false false true true = refl
    at false false true false = other_agrees plugin_word Some s (refl, refl, refl, refl, refl, refl, refl, refl, refl, λ a. refl)
