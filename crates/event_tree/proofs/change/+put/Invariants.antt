use Rattle.std.proofs.Common.{length, ◌+◌, ◌*◌}
use Rattle.event_tree.proofs.change.+put.Given as goal

abbrev pub decreases-put_in : goal.decreases-put_in
decreases-put_in l = 2 * length l.parts.now

abbrev pub decreases-put_field : goal.decreases-put_field
decreases-put_field l = 2 * length l.rest.now + 1

abbrev pub decreases-put_item : goal.decreases-put_item
decreases-put_item l = 2 * length l.rest.now + 1
