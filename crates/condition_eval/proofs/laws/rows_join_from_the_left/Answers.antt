use Rattle.condition_eval.proofs.Rows.{conjoined_says, disjoined_says}
use Rattle.condition_eval.proofs.laws.rows_join_from_the_left.Goals as goal

pub returns-clause-conjoined : goal.returns-clause-conjoined
returns-clause-conjoined c j x y e = conjoined_says j x y e

pub returns-clause-disjoined : goal.returns-clause-disjoined
returns-clause-disjoined c j x y e = disjoined_says j x y e
