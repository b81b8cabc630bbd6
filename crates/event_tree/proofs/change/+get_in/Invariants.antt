use Rattle.std.proofs.Common.{length}
use Rattle.event_tree.proofs.change.+get_in.Given as goal

abbrev pub decreases-get_in : goal.decreases-get_in
decreases-get_in l = length l.parts.now
