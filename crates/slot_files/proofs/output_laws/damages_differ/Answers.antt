use Rattle.slot_files.proofs.Holding.{damages_differ}
use Rattle.slot_files.proofs.output_laws.damages_differ.Goals as goal

pub returns : goal.returns
returns c = damages_differ
