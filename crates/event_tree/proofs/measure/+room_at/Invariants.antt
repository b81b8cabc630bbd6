use Rattle.std.proofs.Common.{length}
use Rattle.event_tree.proofs.measure.+room_at.Given as goal

abbrev pub decreases-room_at : goal.decreases-room_at
decreases-room_at l = length l.parts.now
