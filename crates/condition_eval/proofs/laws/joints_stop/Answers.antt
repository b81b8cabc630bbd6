use Rattle.condition_eval.proofs.Joints.{conjunction_meets, disjunction_meets, xor_meets}
use Rattle.condition_eval.proofs.laws.joints_stop.Goals as goal

pub returns-clause-conjunction : goal.returns-clause-conjunction
returns-clause-conjunction c j r y = conjunction_meets j r y

pub returns-clause-disjunction : goal.returns-clause-disjunction
returns-clause-disjunction c j r y = disjunction_meets j r y

pub returns-clause-xor : goal.returns-clause-xor
returns-clause-xor c x r h = xor_meets x r h
