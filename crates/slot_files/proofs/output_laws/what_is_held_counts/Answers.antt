use Rattle.slot_files.proofs.Holding.{held_is_counted}
use Rattle.slot_files.proofs.output_laws.what_is_held_counts.Goals as goal

pub returns : goal.returns
returns c = held_is_counted
