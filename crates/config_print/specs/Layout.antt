-- Tokens with blanks between.
use Rattle.std.specs.Prelude.{ℕ, List, [], ◌∷◌, ◌++◌, map, codes}
use Rattle.config_lex.specs.declared.token.Token.{Token}
use Rattle.config_print.specs.Tokens.{written}

-- a token, and the blanks that stand in front of it
abbrev pub Piece : Type 0
Piece = List ℕ × Token

-- behind one blank
abbrev pub spaced : Token → Piece
spaced y = (codes " ", y)

-- all of them, one behind the other
abbrev pub text_of : List Piece → List ℕ
text_of [] = []
text_of (p ∷ ps) = p.0 ++ (written p.1 ++ text_of ps)

-- without their blanks
abbrev pub tokens_of : List Piece → List Token
tokens_of = map (λ p. p.1)
