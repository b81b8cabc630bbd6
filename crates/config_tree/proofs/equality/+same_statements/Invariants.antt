use Rattle.std.proofs.Common.{◌≡◌, take}
use Rattle.config_tree.proofs.equality.+same_statements.Given as goal

abbrev pub invariant-same_arms-loop-i : goal.invariant-same_arms-loop-i
invariant-same_arms-loop-i l = take l.i l.left ≡ take l.i l.right

abbrev pub invariant-same_statements-loop-i : goal.invariant-same_statements-loop-i
invariant-same_statements-loop-i l = take l.i l.left ≡ take l.i l.right
