use Rattle.std.proofs.Common.{◌≡◌, ◌++◌, drop, map, false, ◌+◌, ◌*◌}
use Rattle.std.specs.Prelude.{string_bytes}
use Rattle.event_tree.specs.Values.{depth, items_depth}
use Rattle.event_text.specs.Shown.{shown, joined}
use Rattle.event_text.proofs.shown.+show.Given as goal

abbrev pub invariant-add_items-loop-item : goal.invariant-add_items-loop-item
invariant-add_items-loop-item l = string_bytes l.to ++ joined l.later (map shown (drop l.item-index l.items)) ≡ string_bytes l.fn.to ++ joined false (map shown l.items)

abbrev pub decreases-add_shown : goal.decreases-add_shown
decreases-add_shown l = 2 * depth l.value.now

abbrev pub decreases-add_items : goal.decreases-add_items
decreases-add_items l = 2 * items_depth l.items.now + 1
