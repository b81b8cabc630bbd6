use Rattle.std.proofs.Common.{length, ◌+◌, ◌*◌}
use Rattle.event_tree.proofs.moving.+find.Given as goal

abbrev pub decreases-find : goal.decreases-find
decreases-find l = 2 * length l.parts.now

abbrev pub decreases-find_field : goal.decreases-find_field
decreases-find_field l = 2 * length l.rest.now + 1

abbrev pub decreases-find_item : goal.decreases-find_item
decreases-find_item l = 2 * length l.rest.now + 1
