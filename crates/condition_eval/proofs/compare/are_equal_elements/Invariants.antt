use Rattle.std.proofs.Common.{◌≡◌, take}
use Rattle.condition_eval.specs.Sides.{values_of}
use Rattle.condition_eval.proofs.compare.are_equal_elements.Given as goal

abbrev pub invariant-loop-i : goal.invariant-loop-i
invariant-loop-i l = take l.i (values_of l.left) ≡ take l.i (values_of l.right)
