-- Where a list of tokens stops being the beginning of a configuration.
use Rattle.std.specs.Prelude.{◌≡◌, ℕ, List, [], ◌∷◌, ◌++◌, length}
use Rattle.config_lex.specs.declared.token.Token.{Token}
use Rattle.config_tree.specs.declared.tree.Config.{Config}
use Rattle.config_parse.specs.Grammar.{ReadsConfig}

-- some list that it begins is a configuration
pub record Viable (ts : List Token) : Type 0 where
  pub levels : ℕ
  pub more : List Token
  pub config : Config
  pub reads : ReadsConfig levels (ts ++ more) config

-- the tokens used begin a configuration, and with what comes next they don't
pub record Stops (used rest : List Token) : Type 0 where
  pub viable : Viable used
  pub early : rest ≡ [] → (levels : ℕ) (config : Config) → ReadsConfig levels used config → ⊥
  pub wrong : (y : Token) (behind : List Token) → rest ≡ y ∷ behind → Viable (used ++ y ∷ []) → ⊥

-- the first token that can't stand where it stands has so many tokens from it on; or the tokens end early
pub record IsFault (ts : List Token) (left : ℕ) : Type 0 where
  pub used : List Token
  pub rest : List Token
  pub whole : ts ≡ used ++ rest
  pub place : left ≡ length rest
  pub stops : Stops used rest
