-- What a list of tokens is.
use Rattle.std.specs.Prelude.{ℕ}

-- a configuration; or a fault, with the number of tokens from its place on
pub data Verdict : Type 0 where
  Reads : Verdict
  -- the first of those tokens can't stand where it stands; or, with none left, the tokens end early
  Syntax : ℕ → Verdict
  -- the first of those tokens opens a level too many
  Deep : ℕ → Verdict
