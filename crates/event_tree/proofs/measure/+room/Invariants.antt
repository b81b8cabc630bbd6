use Rattle.std.proofs.Common.{◌≡◌, drop, ◌+◌, ◌*◌}
use Rattle.event_tree.specs.Values.{depth, items_depth, members_depth}
use Rattle.event_tree.specs.Sizes.{items_size, members_size, less}
use Rattle.event_tree.specs.Sound.{items_sound, members_sound}
use Rattle.event_tree.proofs.measure.+room.Given as goal

abbrev pub invariant-room_after_items-loop-item : goal.invariant-room_after_items-loop-item
invariant-room_after_items-loop-item l = record {
  room : less l.left (items_size (drop l.item-index l.items)) ≡ less l.room (items_size l.items);
  sound : items_sound (drop l.item-index l.items) ≡ items_sound l.items;
}

abbrev pub invariant-room_after_members-loop-member : goal.invariant-room_after_members-loop-member
invariant-room_after_members-loop-member l = record {
  room : less l.left (members_size (drop l.member-index l.members)) ≡ less l.room (members_size l.members);
  sound : members_sound (drop l.member-index l.members) ≡ members_sound l.members;
}

abbrev pub decreases-room_after : goal.decreases-room_after
decreases-room_after l = 2 * depth l.value.now

abbrev pub decreases-room_after_items : goal.decreases-room_after_items
decreases-room_after_items l = 2 * items_depth l.items.now + 1

abbrev pub decreases-room_after_members : goal.decreases-room_after_members
decreases-room_after_members l = 2 * members_depth l.members.now + 1
