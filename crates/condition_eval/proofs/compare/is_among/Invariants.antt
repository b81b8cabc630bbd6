use Rattle.std.proofs.Common.{◌≡◌, drop}
use Rattle.condition_eval.specs.Values.{is_among}
use Rattle.condition_eval.specs.Sides.{value_of, values_of}
use Rattle.condition_eval.proofs.compare.is_among.Given as goal

abbrev pub invariant-loop-i : goal.invariant-loop-i
invariant-loop-i l = is_among (value_of l.left) (values_of l.elements) ≡ is_among (value_of l.left) (drop l.i (values_of l.elements))
