use Rattle.line_machine.proofs.Inside.{steps_stand_inside, calls_stand_inside, stops_stand_inside, inside_stays}
use Rattle.line_machine.proofs.laws.stops_stand_inside.Goals as goal

pub returns-clause-steps : goal.returns-clause-steps
returns-clause-steps c = steps_stand_inside

pub returns-clause-calls : goal.returns-clause-calls
returns-clause-calls c = calls_stand_inside

pub returns-clause-positions : goal.returns-clause-positions
returns-clause-positions c = stops_stand_inside

pub returns-clause-later : goal.returns-clause-later
returns-clause-later c = inside_stays
