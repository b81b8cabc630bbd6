use Rattle.std.proofs.Common.{refl}
use Rattle.config_lex.specs.Bytes.{passing, skip, closing, unescaped}
use Rattle.config_lex.specs.Lexemes.{parts_at, token_at, lexed}
use Rattle.config_tests.proofs.laws.open_levels.Goals as goal

pub returns-clause-nothing : goal.returns-clause-nothing
unfolding passing skip closing unescaped parts_at token_at lexed
returns-clause-nothing c = refl

pub returns-clause-brace : goal.returns-clause-brace
unfolding passing skip closing unescaped parts_at token_at lexed
returns-clause-brace c = refl

pub returns-clause-brackets : goal.returns-clause-brackets
unfolding passing skip closing unescaped parts_at token_at lexed
returns-clause-brackets c = refl

pub returns-clause-closed : goal.returns-clause-closed
unfolding passing skip closing unescaped parts_at token_at lexed
returns-clause-closed c = refl

pub returns-clause-denials : goal.returns-clause-denials
unfolding passing skip closing unescaped parts_at token_at lexed
returns-clause-denials c = refl

pub returns-clause-joint : goal.returns-clause-joint
unfolding passing skip closing unescaped parts_at token_at lexed
returns-clause-joint c = refl

pub returns-clause-group : goal.returns-clause-group
unfolding passing skip closing unescaped parts_at token_at lexed
returns-clause-group c = refl

pub returns-clause-block : goal.returns-clause-block
unfolding passing skip closing unescaped parts_at token_at lexed
returns-clause-block c = refl

pub returns-clause-list : goal.returns-clause-list
unfolding passing skip closing unescaped parts_at token_at lexed
returns-clause-list c = refl
