use Rattle.slot_files.proofs.PositionBytes.{none_begins_another}
use Rattle.slot_files.proofs.position_laws.no_slot_begins_another.Goals as goal

pub returns : goal.returns
returns c = none_begins_another
