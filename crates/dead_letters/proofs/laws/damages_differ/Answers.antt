use Rattle.dead_letters.proofs.SegmentSlots.{damages_differ}
use Rattle.dead_letters.proofs.laws.damages_differ.Goals as goal

pub returns : goal.returns
returns c = damages_differ
