use Rattle.queue_files.proofs.Whole.{resting_is_kept, marking_is_kept}
use Rattle.queue_files.proofs.laws.whatever_stops_is_kept.Goals as goal

pub returns-clause-resting : goal.returns-clause-resting
returns-clause-resting c = resting_is_kept

pub returns-clause-marking : goal.returns-clause-marking
returns-clause-marking c = marking_is_kept
