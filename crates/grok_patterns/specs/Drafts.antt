-- What a grok pattern was expanded to so far.
use Rattle.std.specs.Prelude.{ℕ, List}
use Rattle.grok_patterns.specs.declared.scan.Scan.{Scan}
use Rattle.grok_patterns.specs.declared.expansion.Capture.{Capture}

-- the text of a regular expression, where it stands, and which of its groups are kept
pub record Written : Type 0 where
  pub text : List ℕ
  pub scan : Scan
  pub captures : List Capture
