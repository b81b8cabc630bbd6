use Rattle.std.proofs.Common.{length, ◌+◌, ◌*◌}
use Rattle.event_tree.proofs.append.+append.Given as goal

abbrev pub decreases-append_in : goal.decreases-append_in
decreases-append_in l = 2 * length l.parts.now

abbrev pub decreases-append_field : goal.decreases-append_field
decreases-append_field l = 2 * length l.rest.now + 1

abbrev pub decreases-append_item : goal.decreases-append_item
decreases-append_item l = 2 * length l.rest.now + 1
