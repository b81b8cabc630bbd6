-- What the answers say.
use Rattle.std.specs.Prelude.{ℕ, ◌≤◌, ◌<◌, List, length, Result, Ok, Err}
use Rattle.config_lex.specs.declared.token.Lexeme.{Lexeme}
use Rattle.config_lex.specs.declared.token.Token.{Token}
use Rattle.config_tree.specs.declared.tree.Config.{Config}
use Rattle.config_parse.specs.Grammar.{ReadsConfig}
use Rattle.config_parse.specs.Levels.{IsSyntax, IsDeep}
use Rattle.config_lex.specs.Lexemes.{place_in}
use Rattle.config_parse.specs.Texts.{Reads, IsSyntaxAt, IsDeepAt}
use Rattle.config_parse.specs.declared.error.ReadError.{ReadError}
use Rattle.config_parse.specs.declared.error.ReadError.TheVariants as errors
use Rattle.config_parse.specs.declared.fault.ConfigFault.{ConfigFault}
use Rattle.config_parse.specs.declared.fault.ConfigFault.TheVariants as fault

-- of tokens, by the number of those that are left
abbrev pub ToldLeft : ℕ → List Token → Result Config ReadError → Type 0
ToldLeft levels ts (Ok config) = ReadsConfig levels ts config
ToldLeft levels ts (Err errors.Memory) = Unit {0}
ToldLeft levels ts (Err (errors.Syntax left)) = IsSyntax levels ts left
ToldLeft levels ts (Err (errors.Deep left)) = IsDeep levels ts left

-- a fault with its place
abbrev pub placed : ℕ → List Lexeme → ReadError → ConfigFault
placed end found errors.Memory = fault.Memory
placed end found (errors.Syntax left) = fault.Syntax (place_in end found left)
placed end found (errors.Deep left) = fault.Deep (place_in end found left)

-- of a text
abbrev pub Told : ℕ → ℕ → List ℕ → Result Config ConfigFault → Type 0
Told longest levels text (Ok config) = (length text ≤ longest) × Reads levels text config
Told longest levels text (Err fault.Long) = longest < length text
Told longest levels text (Err (fault.Syntax at)) = (length text ≤ longest) × IsSyntaxAt levels text at
Told longest levels text (Err (fault.Deep at)) = (length text ≤ longest) × IsDeepAt levels text at
Told longest levels text (Err fault.Memory) = length text ≤ longest
