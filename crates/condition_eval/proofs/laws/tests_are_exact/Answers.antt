use Rattle.condition_eval.proofs.EqualityLemmas.{equal_where, where_equal}
use Rattle.condition_eval.proofs.Holding.{held_where, holds_where}
use Rattle.condition_eval.proofs.laws.tests_are_exact.Goals as goal

pub returns-clause-equal : goal.returns-clause-equal
returns-clause-equal c x y = (where_equal x y, equal_where x y)

pub returns-clause-holds : goal.returns-clause-holds
returns-clause-holds c part text = (held_where part text, holds_where part text)
