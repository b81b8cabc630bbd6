use Rattle.std.proofs.Common.{◌≡◌, take, ◌+◌, ◌*◌}
use Rattle.event_tree.specs.Values.{depth, items_depth, members_depth}
use Rattle.event_tree.proofs.value.+same.Given as goal

abbrev pub invariant-same_items-loop-i : goal.invariant-same_items-loop-i
invariant-same_items-loop-i l = take l.i l.left ≡ take l.i l.right

abbrev pub invariant-same_members-loop-i : goal.invariant-same_members-loop-i
invariant-same_members-loop-i l = take l.i l.left ≡ take l.i l.right

abbrev pub decreases-same_value : goal.decreases-same_value
decreases-same_value l = 2 * depth l.left.now

abbrev pub decreases-same_items : goal.decreases-same_items
decreases-same_items l = 2 * items_depth l.left.now + 1

abbrev pub decreases-same_members : goal.decreases-same_members
decreases-same_members l = 2 * members_depth l.left.now + 1
