use Rattle.std.proofs.Common.{◌≡◌, take}
use Rattle.config_tree.proofs.equality.+same_settings.Given as goal

abbrev pub invariant-same_entries-loop-i : goal.invariant-same_entries-loop-i
invariant-same_entries-loop-i l = take l.i l.left ≡ take l.i l.right

abbrev pub invariant-same_values-loop-i : goal.invariant-same_values-loop-i
invariant-same_values-loop-i l = take l.i l.left ≡ take l.i l.right
