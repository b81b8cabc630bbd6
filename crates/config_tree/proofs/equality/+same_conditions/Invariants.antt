use Rattle.std.proofs.Common.{◌≡◌, take}
use Rattle.config_tree.proofs.equality.+same_conditions.Given as goal

abbrev pub invariant-same_conjoined-loop-i : goal.invariant-same_conjoined-loop-i
invariant-same_conjoined-loop-i l = take l.i l.left ≡ take l.i l.right

abbrev pub invariant-same_disjoined-loop-i : goal.invariant-same_disjoined-loop-i
invariant-same_disjoined-loop-i l = take l.i l.left ≡ take l.i l.right
