use Rattle.slot_files.proofs.Staying.{has_room}
use Rattle.slot_files.proofs.output_laws.what_is_ready_has_room.Goals as goal

pub returns : goal.returns
returns g c = λ out s ready told. has_room g.S.Store out s ready told
