use Rattle.std.proofs.Common.{◌≡◌, ◌++◌, drop, map, false, ◌+◌, ◌*◌}
use Rattle.event_tree.specs.Values.{on_values, depth, items_depth, members_depth}
use Rattle.event_tree.specs.Sound.{items_sound, members_sound}
use Rattle.event_json.specs.Json.{json, items_json, members_json}
use Rattle.event_tree.specs.Adds.{Keeps}
use Rattle.event_json.proofs.json.+write.Given as goal

abbrev pub invariant-add_items-loop-item : goal.invariant-add_items-loop-item
invariant-add_items-loop-item l = record {
  rest : l.to.items ++ items_json l.later (map json (drop l.item-index l.items)) ≡ l.fn.to.items ++ items_json false (map json l.items);
  keeps : Keeps l.fn.to.items l.to.items;
  sound : items_sound (drop l.item-index l.items) ≡ items_sound l.items;
}

abbrev pub invariant-add_members-loop-member : goal.invariant-add_members-loop-member
invariant-add_members-loop-member l = record {
  rest : l.to.items ++ members_json l.later (on_values json (drop l.member-index l.members)) ≡ l.fn.to.items ++ members_json false (on_values json l.members);
  keeps : Keeps l.fn.to.items l.to.items;
  sound : members_sound (drop l.member-index l.members) ≡ members_sound l.members;
}

abbrev pub decreases-add_value : goal.decreases-add_value
decreases-add_value l = 2 * depth l.value.now

abbrev pub decreases-add_items : goal.decreases-add_items
decreases-add_items l = 2 * items_depth l.items.now + 1

abbrev pub decreases-add_members : goal.decreases-add_members
decreases-add_members l = 2 * members_depth l.members.now + 1
