-- What a text is: a configuration, or a text with a fault at a place.
use Rattle.std.specs.Prelude.{◌≡◌, ℕ, List}
use Rattle.config_tree.specs.declared.tree.Config.{Config}
use Rattle.config_parse.specs.Grammar.{ReadsConfig}
use Rattle.config_parse.specs.Levels.{IsSyntax, IsDeep}
use Rattle.config_lex.specs.Lexemes.{tokens, place_of}

-- the text reads as the configuration, with at most so many levels open
abbrev pub Reads : ℕ → List ℕ → Config → Type 0
Reads levels text config = ReadsConfig levels (tokens text) config

-- the first token that no configuration has behind the tokens before it, where none before it opens a level too many
abbrev pub IsSyntaxAt : ℕ → List ℕ → ℕ → Type 0
IsSyntaxAt levels text at = (left : ℕ) × IsSyntax levels (tokens text) left × (at ≡ place_of text left)

-- the first token that opens a level too many, up to which a configuration may begin so
abbrev pub IsDeepAt : ℕ → List ℕ → ℕ → Type 0
IsDeepAt levels text at = (left : ℕ) × IsDeep levels (tokens text) left × (at ≡ place_of text left)
