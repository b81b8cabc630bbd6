use Rattle.std.proofs.Common.{◌≡◌, ◌++◌, drop, map, ◌+◌, ◌*◌}
use Rattle.event_tree.specs.Values.{on_values, depth, items_depth, members_depth}
use Rattle.element_code.specs.Parts.{bytes_of, items_parts, members_parts, parts}
use Rattle.event_tree.specs.Adds.{Keeps}
use Rattle.element_code.proofs.encoding.+write.Given as goal

abbrev pub decreases-add_value : goal.decreases-add_value
decreases-add_value l = 2 * depth l.value.now

abbrev pub decreases-add_items : goal.decreases-add_items
decreases-add_items l = 2 * items_depth l.items.now + 1

abbrev pub decreases-add_members : goal.decreases-add_members
decreases-add_members l = 2 * members_depth l.members.now + 1

abbrev pub invariant-add_items-loop-item : goal.invariant-add_items-loop-item
invariant-add_items-loop-item l = record {
  rest : l.to.items ++ bytes_of (items_parts (map parts (drop l.item-index l.items))) ≡ l.fn.to.items ++ bytes_of (items_parts (map parts l.items));
  keeps : Keeps l.fn.to.items l.to.items;
}

abbrev pub invariant-add_members-loop-member : goal.invariant-add_members-loop-member
invariant-add_members-loop-member l = record {
  rest : l.to.items ++ bytes_of (members_parts (on_values parts (drop l.member-index l.members))) ≡ l.fn.to.items ++ bytes_of (members_parts (on_values parts l.members));
  keeps : Keeps l.fn.to.items l.to.items;
}
