use Rattle.in_file.proofs.Staying.{has_room}
use Rattle.in_file.proofs.laws.what_is_ready_has_room.Goals as goal

pub returns : goal.returns
returns g c = λ w s ready told. has_room g.S.Store w s ready told
