use Rattle.std.proofs.Common.{length, arith}
use Rattle.config_lex.specs.Lexemes.{start}
use Rattle.config_lex.proofs.Laying.{laid}
use Rattle.config_lex.proofs.laws.tokens_are_the_text.Goals as goal

pub returns : goal.returns
returns c text = laid (length text) 0 start text (omega arith)
