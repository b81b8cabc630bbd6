use Rattle.history_book.proofs.Opening.{openings_fit, found_are_unread}
use Rattle.history_book.proofs.laws.openings_fit.Goals as goal

pub returns-clause-fits : goal.returns-clause-fits
returns-clause-fits c = openings_fit

pub returns-clause-unread : goal.returns-clause-unread
returns-clause-unread c = found_are_unread
