use Rattle.std.proofs.Common.{◌≡◌, drop, nat_le, ◌+◌, ◌*◌}
use Rattle.event_tree.specs.Values.{depth, items_depth, members_depth}
use Rattle.event_tree.proofs.measure.+nests.Given as goal

abbrev pub invariant-items_within_depth-loop-item : goal.invariant-items_within_depth-loop-item
invariant-items_within_depth-loop-item l = nat_le (items_depth (drop l.item-index l.items)) l.levels ≡ nat_le (items_depth l.items) l.levels

abbrev pub invariant-members_within_depth-loop-member : goal.invariant-members_within_depth-loop-member
invariant-members_within_depth-loop-member l = nat_le (members_depth (drop l.member-index l.members)) l.levels ≡ nat_le (members_depth l.members) l.levels

abbrev pub decreases-is_within_depth : goal.decreases-is_within_depth
decreases-is_within_depth l = 2 * depth l.value.now

abbrev pub decreases-items_within_depth : goal.decreases-items_within_depth
decreases-items_within_depth l = 2 * items_depth l.items.now + 1

abbrev pub decreases-members_within_depth : goal.decreases-members_within_depth
decreases-members_within_depth l = 2 * members_depth l.members.now + 1
