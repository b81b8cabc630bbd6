-- A letter for each kind of token.
use Rattle.std.specs.Prelude.{ℕ}
use Rattle.config_lex.specs.declared.token.Token.{Token}
use Rattle.config_lex.specs.declared.token.Token.TheVariants as t

abbrev pub mark : Token → ℕ
mark (t.Word a) = 119
mark (t.Dashed s) = 100
mark (t.Quoted s) = 113
mark (t.Number n s) = 110
mark (t.Regexp s) = 114
mark (t.Selector s) = 115
mark t.OpenBrace = 123
mark t.CloseBrace = 125
mark t.OpenBracket = 91
mark t.CloseBracket = 93
mark t.OpenParen = 40
mark t.CloseParen = 41
mark t.Comma = 44
mark t.Arrow = 62
mark t.Exclamation = 33
mark (t.Comparison j) = 99
mark (t.Matching j) = 109
mark t.Unreadable = 63
