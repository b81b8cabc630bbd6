use Rattle.std.proofs.Common.{length, ◌+◌, ◌*◌}
use Rattle.event_tree.proofs.cut.+take.Given as goal

abbrev pub decreases-take_in : goal.decreases-take_in
decreases-take_in l = 2 * length l.parts.now

abbrev pub decreases-take_field : goal.decreases-take_field
decreases-take_field l = 2 * length l.rest.now + 1

abbrev pub decreases-take_item : goal.decreases-take_item
decreases-take_item l = 2 * length l.rest.now + 1
