-- What the laws say of a text, or of a list of tokens.
use Rattle.std.specs.Prelude.{◌≡◌, ℕ, List, Ok, Err}
use Rattle.config_lex.specs.declared.token.Token.{Token}
use Rattle.config_tree.specs.declared.tree.Config.{Config}
use Rattle.config_parse.specs.Grammar.{ReadsConfig}
use Rattle.config_parse.specs.Levels.{IsSyntax, IsDeep}
use Rattle.config_parse.specs.Trees.{made}
use Rattle.config_parse.specs.Verdicts as is
use Rattle.config_parse.specs.Branches.{HasBranches}

-- two of which this is true are the same
abbrev pub AtMostOne : {A : Type 0} → (A → Type 0) → Type 0
AtMostOne {A} P = (x y : A) → P x → P y → x ≡ y

-- in no text and with no number of levels are both true
abbrev pub Exclude : {A B : Type 0} → (ℕ → List ℕ → A → Type 0) → (ℕ → List ℕ → B → Type 0) → Type 0
Exclude {A} {B} P Q = (levels : ℕ) (text : List ℕ) (x : A) (y : B) → P levels text x → Q levels text y → ⊥

-- a configuration that the tokens are is made of them
abbrev pub MakesWhatReads : ℕ → List Token → Type 0
MakesWhatReads levels tokens = (config : Config) → ReadsConfig levels tokens config → made levels tokens ≡ Ok config

-- the tokens are the configuration that is made of them
abbrev pub ReadsWhatIsMade : ℕ → List Token → Type 0
ReadsWhatIsMade levels tokens = (config : Config) → made levels tokens ≡ Ok config → ReadsConfig levels tokens config

-- a syntax fault that is told is one
abbrev pub IsSyntaxWhereTold : ℕ → List Token → Type 0
IsSyntaxWhereTold levels tokens = (left : ℕ) → made levels tokens ≡ Err (is.Syntax left) → IsSyntax levels tokens left

-- where the tokens are told to be too deep, they are
abbrev pub IsDeepWhereTold : ℕ → List Token → Type 0
IsDeepWhereTold levels tokens = (left : ℕ) → made levels tokens ≡ Err (is.Deep left) → IsDeep levels tokens left

-- what the tokens read as has branches as they should be
abbrev pub ReadsBranches : ℕ → List Token → Type 0
ReadsBranches levels tokens = (config : Config) → ReadsConfig levels tokens config → HasBranches config
