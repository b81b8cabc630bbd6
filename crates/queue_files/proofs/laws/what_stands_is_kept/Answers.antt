use Rattle.queue_files.proofs.Kept.{standing_is_kept}
use Rattle.queue_files.proofs.laws.what_stands_is_kept.Goals as goal

pub returns : goal.returns
returns c = standing_is_kept
