-- The tokens of a list of lexemes, without their places.
use Rattle.std.specs.Prelude.{List, map}
use Rattle.config_lex.specs.declared.token.Token.{Token}
use Rattle.config_lex.specs.declared.token.Lexeme.{Lexeme}

unfoldable pub tokens_of : List Lexeme → List Token
tokens_of found = map (λ l. l.token) found
