-- What the answers on a text say: the limits are its bytes and the levels that may be open.
use Rattle.std.specs.Prelude.{◌≡◌, ℕ, ◌≤◌, List, length, Result, Err, MatchResult}
use Rattle.config_tree.specs.declared.tree.Config.{Config}
use Rattle.config_parse.specs.Texts.{Reads, IsSyntaxAt, IsDeepAt}
use Rattle.config_parse.specs.declared.fault.ConfigFault.{ConfigFault}
use Rattle.config_parse.specs.declared.fault.ConfigFault.TheVariants as fault

-- the text isn't too long, and it reads as the configuration
abbrev pub ReadsWithin : ℕ → ℕ → List ℕ → Config → Type 0
ReadsWithin longest levels text config = (length text ≤ longest) × Reads levels text config

-- a text that isn't too long and reads as a configuration is given as that one, unless memory ran out
abbrev pub GivesWhatReads : ℕ → ℕ → List ℕ → Result Config ConfigFault → Type 0
GivesWhatReads longest levels text result =
    (config : Config) → length text ≤ longest → Reads levels text config → MatchResult result (λ given. given ≡ config) (λ e. e ≡ fault.Memory)

-- where a syntax fault is told, it stands, in a text that isn't too long
abbrev pub IsSyntaxWhereTold : ℕ → ℕ → List ℕ → Result Config ConfigFault → Type 0
IsSyntaxWhereTold longest levels text result = (at : ℕ) → result ≡ Err (fault.Syntax at) → (length text ≤ longest) × IsSyntaxAt levels text at

-- the syntax fault of a text that isn't too long is told, unless memory ran out
abbrev pub TellsSyntax : ℕ → ℕ → List ℕ → Result Config ConfigFault → Type 0
TellsSyntax longest levels text result =
    (at : ℕ) → length text ≤ longest → IsSyntaxAt levels text at → MatchResult result (λ _. ⊥) (λ e. (e ≡ fault.Memory → ⊥) → e ≡ fault.Syntax at)

-- where a level too many is told, it stands, in a text that isn't too long
abbrev pub IsDeepWhereTold : ℕ → ℕ → List ℕ → Result Config ConfigFault → Type 0
IsDeepWhereTold longest levels text result = (at : ℕ) → result ≡ Err (fault.Deep at) → (length text ≤ longest) × IsDeepAt levels text at

-- the level too many of a text that isn't too long is told, unless memory ran out
abbrev pub TellsDeep : ℕ → ℕ → List ℕ → Result Config ConfigFault → Type 0
TellsDeep longest levels text result =
    (at : ℕ) → length text ≤ longest → IsDeepAt levels text at → MatchResult result (λ _. ⊥) (λ e. (e ≡ fault.Memory → ⊥) → e ≡ fault.Deep at)
