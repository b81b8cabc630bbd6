use Rattle.std.proofs.Common.{ap, ◌∙◌, rules}
use Rattle.condition_eval.specs.Truths.{truth_of}
use Rattle.condition_eval.specs.Values.{operand_value}
use Rattle.condition_eval.proofs.EqualityLemmas.{is_the_test}
use Rattle.condition_eval.proofs.operators.equal.Goals as goal

pub returns : goal.returns
returns c = c.of.ensures ∙ ap truth_of (is_the_test c.are_equal.result (operand_value c.args.event.now c.args.left.now) (operand_value c.args.event.now c.args.right.now) (search rules))
