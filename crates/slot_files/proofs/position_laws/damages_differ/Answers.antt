use Rattle.slot_files.proofs.PositionReads.{damages_differ}
use Rattle.slot_files.proofs.position_laws.damages_differ.Goals as goal

pub returns : goal.returns
returns c = damages_differ
