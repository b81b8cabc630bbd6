use Rattle.std.proofs.Common.{sym, ◌∙◌, true≢false}
use Rattle.condition_eval.specs.Sides.{value_of, values_of, element_value}
use Rattle.condition_eval.proofs.Among.{value_here, value_later}
use Rattle.condition_eval.proofs.compare.is_among.Goals as goal

pub returns-then-are_equal : goal.returns-then-are_equal
returns-then-are_equal c =
    sym (c.loop-i.invariant ∙ value_here (value_of c.args.left) (values_of c.args.elements) c.loop-i.i (element_value c.at.result) c.at.ensures (c.are_equal.ensures.0 c.if-are_equal.true ∙ c.side_of_element.ensures))

pub loop-i-preserved : goal.loop-i-preserved
loop-i-preserved c =
    c.loop-i.invariant ∙ value_later (value_of c.args.left) (values_of c.args.elements) c.loop-i.i (element_value c.at.result) c.at.ensures (λ e. true≢false (sym (c.are_equal.ensures.1 (e ∙ sym c.side_of_element.ensures)) ∙ c.if-are_equal.false))
