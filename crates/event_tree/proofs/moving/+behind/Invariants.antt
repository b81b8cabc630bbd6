use Rattle.std.proofs.Common.{length, ◌+◌, ◌*◌}
use Rattle.event_tree.proofs.moving.+behind.Given as goal

abbrev pub decreases-room_behind : goal.decreases-room_behind
decreases-room_behind l = 2 * length l.to.now

abbrev pub decreases-room_behind_field : goal.decreases-room_behind_field
decreases-room_behind_field l = 2 * length l.rest.now + 1

abbrev pub decreases-room_behind_item : goal.decreases-room_behind_item
decreases-room_behind_item l = 2 * length l.rest.now + 1
