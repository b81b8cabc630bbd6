use Rattle.condition_eval.proofs.Orders.{numbers_agree, texts_agree}
use Rattle.condition_eval.proofs.laws.orders_agree_with_equality.Goals as goal

pub returns-clause-numbers : goal.returns-clause-numbers
returns-clause-numbers c m n least = numbers_agree m n least

pub returns-clause-texts : goal.returns-clause-texts
returns-clause-texts c s t = texts_agree s t
