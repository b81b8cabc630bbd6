use Rattle.history_tests.proofs.Unheard.{unanswered_is_not_legal}
use Rattle.history_tests.proofs.laws.a_delivery_without_its_answer_is_not_legal.Goals as goal

pub returns : goal.returns
returns c = unanswered_is_not_legal
