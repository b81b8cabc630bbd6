use Rattle.std.proofs.Common.{sym, ap, ◌∙◌}
use Rattle.config_tree.specs.declared.operators.Comparison.TheVariants as is
use Rattle.config_tree.specs.declared.operators.Conjunction.TheVariants as and
use Rattle.config_tree.specs.declared.operators.Matching.TheVariants as m
use Rattle.config_tree.specs.declared.tree.Condition.TheVariants as v
use Rattle.config_tree.proofs.Folds as folds
use Rattle.condition_eval.specs.Truths.{negated, truth, truth_step}
use Rattle.condition_eval.proofs.Joints.{says_not, not_not}
use Rattle.condition_eval.proofs.Rows.{conjoined_says}
use Rattle.condition_eval.proofs.laws.denials_are_negations.Goals as goal

pub returns-clause-unequal : goal.returns-clause-unequal
unfolding truth
returns-clause-unequal c x y e = folds.fold-Compared (truth_step e) is.Unequal x y ∙ ap negated (sym (folds.fold-Compared (truth_step e) is.Equal x y))

pub returns-clause-not_in : goal.returns-clause-not_in
unfolding truth
returns-clause-not_in c x y e = folds.fold-NotIn (truth_step e) x y ∙ ap negated (sym (folds.fold-In (truth_step e) x y))

pub returns-clause-matches_not : goal.returns-clause-matches_not
unfolding truth
returns-clause-matches_not c x p e = folds.fold-Matched (truth_step e) m.MatchesNot x p ∙ ap negated (sym (folds.fold-Matched (truth_step e) m.Matches x p))

pub returns-clause-nand : goal.returns-clause-nand
returns-clause-nand c x y e = conjoined_says and.Nand x y e ∙ ap negated (sym (conjoined_says and.And x y e))

pub returns-clause-not : goal.returns-clause-not
returns-clause-not c x e = says_not x e

pub returns-clause-not_not : goal.returns-clause-not_not
returns-clause-not_not c x e = says_not (v.Not x) e ∙ ap negated (says_not x e) ∙ not_not (truth x e)
