use Rattle.history_book.proofs.Moments.{left_is_sound, following_stands, opening_stands}
use Rattle.history_book.proofs.laws.places_hold_what_is_told.Goals as goal

pub returns-clause-left : goal.returns-clause-left
returns-clause-left c = left_is_sound

pub returns-clause-follows : goal.returns-clause-follows
returns-clause-follows c = following_stands

pub returns-clause-opened : goal.returns-clause-opened
returns-clause-opened c = opening_stands
