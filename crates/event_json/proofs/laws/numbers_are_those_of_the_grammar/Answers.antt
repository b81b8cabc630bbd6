use Rattle.event_json.proofs.NumberParts.{read_in_grammar, grammar_is_read}
use Rattle.event_json.proofs.laws.numbers_are_those_of_the_grammar.Goals as goal

pub returns : goal.returns
returns c read text = ((λ h. read_in_grammar read text h), (λ h. grammar_is_read read text h))
