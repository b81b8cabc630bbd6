-- What printing a configuration and reading the printed text answers, within the limits.
use Rattle.std.specs.Prelude.{◌≡◌, ◌≤◌, ◌<◌, ℕ, List, length, Result, Err, MatchResult}
use Rattle.config_tree.specs.declared.tree.Config.{Config}
use Rattle.config_parse.specs.Texts.{Reads, IsSyntaxAt, IsDeepAt}
use Rattle.config_parse.specs.declared.fault.ConfigFault.{ConfigFault}
use Rattle.config_parse.specs.declared.fault.ConfigFault.TheVariants as fault
use Rattle.config_print.specs.Printed.{printed}

-- a configuration that some text reads as is given again, unless its printed text is too long or memory ran out
abbrev pub GivesAgain : ℕ → ℕ → Config → Result Config ConfigFault → Type 0
GivesAgain longest levels config result =
    (text : List ℕ) → Reads levels text config → length (printed config) ≤ longest → MatchResult result (λ given. given ≡ config) (λ e. e ≡ fault.Memory)

-- a printed text that is too long is told, unless memory ran out
abbrev pub TellsLong : ℕ → Config → Result Config ConfigFault → Type 0
TellsLong longest config result = longest < length (printed config) → MatchResult result (λ _. ⊥) (λ e. (e ≡ fault.Memory → ⊥) → e ≡ fault.Long)

-- where a fault of the printed text is told, it stands
abbrev pub IsSyntaxWhereTold : ℕ → Config → Result Config ConfigFault → Type 0
IsSyntaxWhereTold levels config result = (at : ℕ) → result ≡ Err (fault.Syntax at) → IsSyntaxAt levels (printed config) at

abbrev pub IsDeepWhereTold : ℕ → Config → Result Config ConfigFault → Type 0
IsDeepWhereTold levels config result = (at : ℕ) → result ≡ Err (fault.Deep at) → IsDeepAt levels (printed config) at
