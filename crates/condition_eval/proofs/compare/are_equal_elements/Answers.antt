use Rattle.std.proofs.Common.{rules, sym, true≢false}
use Rattle.condition_eval.specs.Sides.{values_of, element_value}
use Rattle.condition_eval.proofs.Lists.{take_step, same_at}
use Rattle.condition_eval.proofs.compare.are_equal_elements.Goals as goal

pub loop-i-preserved : goal.loop-i-preserved
loop-i-preserved c =
    take_step (values_of c.args.left) (values_of c.args.right) c.loop-i.i (element_value c.at.result) (element_value c.at-in-loop-i.result) c.at.ensures c.at-in-loop-i.ensures c.loop-i.invariant (search rules)

pub returns-then-not-are_same : goal.returns-then-not-are_same
returns-then-not-are_same c =
    (λ t. absurd (true≢false (sym t)), λ e. let s = same_at (values_of c.args.left) (values_of c.args.right) c.loop-i.i (element_value c.at.result) (element_value c.at-in-loop-i.result) c.at.ensures c.at-in-loop-i.ensures e in search (rules, s))
