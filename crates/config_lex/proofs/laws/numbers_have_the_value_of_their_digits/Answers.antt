use Rattle.config_lex.proofs.Numerals.{value_of_digits}
use Rattle.config_lex.proofs.laws.numbers_have_the_value_of_their_digits.Goals as goal

pub returns : goal.returns
returns c s h = value_of_digits s h
