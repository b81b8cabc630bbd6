use Rattle.history_book.proofs.Unread.{accepted_comes_last, first_are_read, found_come_next, others_leave_unread}
use Rattle.history_book.proofs.laws.unread_rows_come_next.Goals as goal

pub returns-clause-accepted : goal.returns-clause-accepted
returns-clause-accepted c = accepted_comes_last

pub returns-clause-read : goal.returns-clause-read
returns-clause-read c = first_are_read

pub returns-clause-found : goal.returns-clause-found
returns-clause-found c = found_come_next

pub returns-clause-others : goal.returns-clause-others
returns-clause-others c = others_leave_unread
