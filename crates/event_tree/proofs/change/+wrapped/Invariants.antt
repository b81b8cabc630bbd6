use Rattle.std.proofs.Common.{length}
use Rattle.event_tree.proofs.change.+wrapped.Given as goal

abbrev pub decreases-wrapped : goal.decreases-wrapped
decreases-wrapped l = length l.parts.now
