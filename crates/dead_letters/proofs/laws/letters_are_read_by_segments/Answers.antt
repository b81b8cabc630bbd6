use Rattle.dead_letters.proofs.Placing.{letters_by_segments}
use Rattle.dead_letters.proofs.laws.letters_are_read_by_segments.Goals as goal

pub returns : goal.returns
returns c = letters_by_segments
