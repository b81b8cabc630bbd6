use Rattle.line_machine.proofs.Positions.{recorded_positions_stand}
use Rattle.line_machine.proofs.laws.recorded_positions_stand.Goals as goal

pub returns : goal.returns
returns c = recorded_positions_stand
