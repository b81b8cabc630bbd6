-- What reading tells of the grammar, and what the answers tell of a text.
use Rattle.std.proofs.Common.{◌≡◌, ℕ, ◌≤◌, List, length, refl, ap, subst, ◌∙◌, Ok, Err, Result, arith, MatchResult}
use Rattle.config_tree.specs.declared.tree.Config.{Config}
use Rattle.config_parse.specs.Grammar.{ReadsConfig}
use Rattle.config_parse.specs.Levels.{IsSyntax, IsDeep}
use Rattle.config_lex.specs.declared.token.Lexeme.{Lexeme}
use Rattle.config_lex.specs.Lexemes.{lexemes, tokens, place_in}
use Rattle.config_parse.specs.Texts.{Reads, IsSyntaxAt, IsDeepAt}
use Rattle.config_parse.specs.declared.error.ReadError.{ReadError}
use Rattle.config_parse.specs.declared.error.ReadError.TheVariants as errors
use Rattle.config_parse.specs.Seen.{tokens_of}
use Rattle.config_parse.specs.Told.{ToldLeft, Told, placed}
use Rattle.config_parse.specs.declared.fault.ConfigFault.{ConfigFault}
use Rattle.config_parse.specs.declared.fault.ConfigFault.TheVariants as fault

-- what the tokens of a text tell of the text
seen_is : (text : List ℕ) → tokens_of (lexemes text) ≡ tokens text
unfolding tokens_of
seen_is text = refl

pub text_ok : (longest levels : ℕ) (text : List ℕ) (found : List Lexeme) (c : Config) → found ≡ lexemes text → length text ≤ longest → ToldLeft levels (tokens_of found) (Ok c) → Told longest levels text (Ok c)
text_ok longest levels text found c is l h = (l, subst (λ ts. ReadsConfig levels ts c) (ap tokens_of is ∙ seen_is text) h)

pub text_err : (longest levels : ℕ) (text : List ℕ) (found : List Lexeme) (e : ReadError) → found ≡ lexemes text → length text ≤ longest → ToldLeft levels (tokens_of found) (Err e) → Told longest levels text (Err (placed (length text) found e))
text_err longest levels text found errors.Memory is l h = l
text_err longest levels text found (errors.Syntax left) is l h = (l, (left, subst (λ ts. IsSyntax levels ts left) (ap tokens_of is ∙ seen_is text) h, ap (λ f. place_in (length text) f left) is))
text_err longest levels text found (errors.Deep left) is l h = (l, (left, subst (λ ts. IsDeep levels ts left) (ap tokens_of is ∙ seen_is text) h, ap (λ f. place_in (length text) f left) is))

module _ (longest levels : ℕ) (text : List ℕ) where
  pub only : (once : (c d : Config) → Reads levels text c → Reads levels text d → c ≡ d) (not_syntax : (c : Config) (at : ℕ) → Reads levels text c → IsSyntaxAt levels text at → ⊥) (not_deep : (c : Config) (at : ℕ) → Reads levels text c → IsDeepAt levels text at → ⊥)
      → (r : Result Config ConfigFault) → Told longest levels text r → (c : Config) → length text ≤ longest → Reads levels text c → MatchResult r (λ given. given ≡ c) (λ e. e ≡ fault.Memory)
  only once not_syntax not_deep (Ok d) h c l w = once d c h.1 w
  only once not_syntax not_deep (Err fault.Long) h c l w = absurd (omega (arith, h, l))
  only once not_syntax not_deep (Err (fault.Syntax at)) h c l w = absurd (not_syntax c at w h.1)
  only once not_syntax not_deep (Err (fault.Deep at)) h c l w = absurd (not_deep c at w h.1)
  only once not_syntax not_deep (Err fault.Memory) h c l w = refl

  pub only_syntax : (not_syntax : (c : Config) (at : ℕ) → Reads levels text c → IsSyntaxAt levels text at → ⊥) (one : (a b : ℕ) → IsSyntaxAt levels text a → IsSyntaxAt levels text b → a ≡ b) (apart : (a b : ℕ) → IsSyntaxAt levels text a → IsDeepAt levels text b → ⊥)
      → (r : Result Config ConfigFault) → Told longest levels text r → (at : ℕ) → length text ≤ longest → IsSyntaxAt levels text at → MatchResult r (λ _. ⊥) (λ e. (e ≡ fault.Memory → ⊥) → e ≡ fault.Syntax at)
  only_syntax not_syntax one apart (Ok d) h at l w = not_syntax d at h.1 w
  only_syntax not_syntax one apart (Err fault.Long) h at l w = absurd (omega (arith, h, l))
  only_syntax not_syntax one apart (Err (fault.Syntax a)) h at l w = λ _. ap fault.Syntax (one a at h.1 w)
  only_syntax not_syntax one apart (Err (fault.Deep a)) h at l w = absurd (apart at a w h.1)
  only_syntax not_syntax one apart (Err fault.Memory) h at l w = λ n. absurd (n refl)

  pub only_deep : (not_deep : (c : Config) (at : ℕ) → Reads levels text c → IsDeepAt levels text at → ⊥) (one : (a b : ℕ) → IsDeepAt levels text a → IsDeepAt levels text b → a ≡ b) (apart : (a b : ℕ) → IsSyntaxAt levels text a → IsDeepAt levels text b → ⊥)
      → (r : Result Config ConfigFault) → Told longest levels text r → (at : ℕ) → length text ≤ longest → IsDeepAt levels text at → MatchResult r (λ _. ⊥) (λ e. (e ≡ fault.Memory → ⊥) → e ≡ fault.Deep at)
  only_deep not_deep one apart (Ok d) h at l w = not_deep d at h.1 w
  only_deep not_deep one apart (Err fault.Long) h at l w = absurd (omega (arith, h, l))
  only_deep not_deep one apart (Err (fault.Syntax a)) h at l w = absurd (apart a at h.1 w)
  only_deep not_deep one apart (Err (fault.Deep a)) h at l w = λ _. ap fault.Deep (one a at h.1 w)
  only_deep not_deep one apart (Err fault.Memory) h at l w = λ n. absurd (n refl)
