use Rattle.dead_letters.proofs.SegmentSlots.{counted_have_room}
use Rattle.dead_letters.proofs.laws.counted_segments_have_room.Goals as goal

pub returns : goal.returns
returns c = counted_have_room
