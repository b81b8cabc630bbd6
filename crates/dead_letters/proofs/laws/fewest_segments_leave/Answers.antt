use Rattle.dead_letters.proofs.Sheds.{fewest_segments_leave}
use Rattle.dead_letters.proofs.laws.fewest_segments_leave.Goals as goal

pub returns : goal.returns
returns c = fewest_segments_leave
