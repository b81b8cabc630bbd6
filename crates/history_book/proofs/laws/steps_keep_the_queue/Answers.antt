use Rattle.history_book.proofs.Following.{accepted_is_written, marked_is_settled, rolled_is_of, acknowledged_is_of, purged_is_of, opened_is_of, others_leave_it}
use Rattle.history_book.proofs.laws.steps_keep_the_queue.Goals as goal

pub returns-clause-written : goal.returns-clause-written
returns-clause-written c = accepted_is_written

pub returns-clause-marked : goal.returns-clause-marked
returns-clause-marked c = marked_is_settled

pub returns-clause-rolled : goal.returns-clause-rolled
returns-clause-rolled c = rolled_is_of

pub returns-clause-acknowledged : goal.returns-clause-acknowledged
returns-clause-acknowledged c = acknowledged_is_of

pub returns-clause-purged : goal.returns-clause-purged
returns-clause-purged c = purged_is_of

pub returns-clause-opened : goal.returns-clause-opened
returns-clause-opened c = opened_is_of

pub returns-clause-others : goal.returns-clause-others
returns-clause-others c = others_leave_it
