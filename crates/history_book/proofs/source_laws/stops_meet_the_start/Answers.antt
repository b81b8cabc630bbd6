use Rattle.history_book.proofs.Stopping.{runs_stand_inside, stops_meet_the_start}
use Rattle.history_book.proofs.source_laws.stops_meet_the_start.Goals as goal

pub returns-clause-inside : goal.returns-clause-inside
returns-clause-inside c = runs_stand_inside

pub returns-clause-start : goal.returns-clause-start
returns-clause-start c = stops_meet_the_start
