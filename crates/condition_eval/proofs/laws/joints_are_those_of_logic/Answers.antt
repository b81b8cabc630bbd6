use Rattle.condition_eval.proofs.Joints.{both_yes, both_no, one_yes, de_morgan}
use Rattle.condition_eval.proofs.laws.joints_are_those_of_logic.Goals as goal

pub returns-clause-and : goal.returns-clause-and
returns-clause-and c x y = both_yes x y

pub returns-clause-or : goal.returns-clause-or
returns-clause-or c x y = both_no x y

pub returns-clause-xor : goal.returns-clause-xor
returns-clause-xor c x y = one_yes x y

pub returns-clause-de_morgan : goal.returns-clause-de_morgan
returns-clause-de_morgan c x y = de_morgan x y
