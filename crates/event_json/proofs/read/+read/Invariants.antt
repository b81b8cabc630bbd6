use Rattle.std.proofs.Common.{◌≡◌, ◌-◌, ◌+◌, ◌*◌, [], length}
use Rattle.std.specs.Prelude.{IsUtf8}
use Rattle.event_json.specs.Reading.{node_at, elements_at, item_at, member_at}
use Rattle.event_json.specs.Gathered.{put_all}
use Rattle.event_json.proofs.read.+read.Given as goal

abbrev pub decreases-node : goal.decreases-node
decreases-node l = 8 * l.levels

abbrev pub decreases-spaced : goal.decreases-spaced
decreases-spaced l = 8 * l.levels + 1

abbrev pub decreases-entry : goal.decreases-entry
decreases-entry l = 8 * l.levels + 2

abbrev pub decreases-items : goal.decreases-items
decreases-items l = 8 * l.levels + 3

abbrev pub decreases-members : goal.decreases-members
decreases-members l = 8 * l.levels + 3

abbrev pub decreases-list : goal.decreases-list
decreases-list l = 8 * l.levels + 4

abbrev pub decreases-object : goal.decreases-object
decreases-object l = 8 * l.levels + 4

abbrev pub invariant-items-loop : goal.invariant-items-loop
invariant-items-loop l = record {
  utf8 : IsUtf8 l.rest;
  so_far : elements_at 93 (item_at (node_at l.levels)) (length l.text - l.counter) l.found l.rest ≡ elements_at 93 (item_at (node_at l.levels)) (length l.text) [] l.text;
}

abbrev pub invariant-members-loop : goal.invariant-members-loop
invariant-members-loop l = record {
  utf8 : IsUtf8 l.rest;
  so_far : elements_at 125 (member_at (node_at l.levels)) (length l.text - l.counter) (put_all [] l.found.items) l.rest ≡ elements_at 125 (member_at (node_at l.levels)) (length l.text) [] l.text;
}
