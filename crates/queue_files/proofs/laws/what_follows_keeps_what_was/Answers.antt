use Rattle.queue_files.proofs.FolderKeeping.{marked_keeps, marked_rolled_keeps, rolled_keeps, purged_keeps, row_keeps}
use Rattle.queue_files.proofs.laws.what_follows_keeps_what_was.Goals as goal

pub returns-clause-marked : goal.returns-clause-marked
returns-clause-marked c = marked_keeps

pub returns-clause-rolled : goal.returns-clause-rolled
returns-clause-rolled c = rolled_keeps

pub returns-clause-marked_rolled : goal.returns-clause-marked_rolled
returns-clause-marked_rolled c = marked_rolled_keeps

pub returns-clause-purged : goal.returns-clause-purged
returns-clause-purged c = purged_keeps

pub returns-clause-row : goal.returns-clause-row
returns-clause-row c = row_keeps
