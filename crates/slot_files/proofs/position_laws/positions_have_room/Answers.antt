use Rattle.slot_files.proofs.PositionReads.{positions_have_room}
use Rattle.slot_files.proofs.position_laws.positions_have_room.Goals as goal

pub returns : goal.returns
returns c = positions_have_room
