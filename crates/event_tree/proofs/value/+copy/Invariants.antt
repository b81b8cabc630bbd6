use Rattle.std.proofs.Common.{◌≡◌, take, ◌+◌, ◌*◌}
use Rattle.event_tree.specs.Values.{depth, items_depth, members_depth}
use Rattle.event_tree.proofs.value.+copy.Given as goal

abbrev pub invariant-copy_items-loop-item : goal.invariant-copy_items-loop-item
invariant-copy_items-loop-item l = l.copies ≡ take l.item-index l.items

abbrev pub invariant-copy_members-loop-member : goal.invariant-copy_members-loop-member
invariant-copy_members-loop-member l = l.copies ≡ take l.member-index l.members

abbrev pub decreases-copy_value : goal.decreases-copy_value
decreases-copy_value l = 2 * depth l.value.now

abbrev pub decreases-copy_items : goal.decreases-copy_items
decreases-copy_items l = 2 * items_depth l.items.now + 1

abbrev pub decreases-copy_members : goal.decreases-copy_members
decreases-copy_members l = 2 * members_depth l.members.now + 1
