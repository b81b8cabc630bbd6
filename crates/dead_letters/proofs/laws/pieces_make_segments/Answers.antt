use Rattle.dead_letters.proofs.QueueNames.{pieces_make_segments}
use Rattle.dead_letters.proofs.laws.pieces_make_segments.Goals as goal

pub returns : goal.returns
returns c = pieces_make_segments
