-- How many levels are open behind a text's tokens.
use Rattle.std.specs.Prelude.{◌≡◌, ℕ, List}
use Rattle.config_lex.specs.Lexemes.{tokens}
use Rattle.config_parse.specs.Levels.{level}

abbrev pub Opens : List ℕ → ℕ → Type 0
Opens text n = level (tokens text) ≡ n
