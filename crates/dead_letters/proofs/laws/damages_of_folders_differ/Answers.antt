use Rattle.dead_letters.proofs.FoundDamages.{found_damages_differ}
use Rattle.dead_letters.proofs.laws.damages_of_folders_differ.Goals as goal

pub returns : goal.returns
returns c = found_damages_differ
