-- What every text is.
use Rattle.std.specs.Prelude.{ℕ, List}
use Rattle.config_tree.specs.declared.tree.Config.{Config}
use Rattle.config_parse.specs.Texts.{Reads, IsSyntaxAt, IsDeepAt}

-- a text reads as a configuration, or has a syntax fault at a place, or is too deep at a place
pub data Answer (levels : ℕ) (text : List ℕ) : Type 0 where
  reads : (config : Config) → Reads levels text config → Answer levels text
  syntax : (place : ℕ) → IsSyntaxAt levels text place → Answer levels text
  deep : (place : ℕ) → IsDeepAt levels text place → Answer levels text
