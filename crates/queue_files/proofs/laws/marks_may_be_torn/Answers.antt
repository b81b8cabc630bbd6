use Rattle.queue_files.proofs.Torn.{tails_stand, marked_heads_stand}
use Rattle.queue_files.proofs.laws.marks_may_be_torn.Goals as goal

pub returns-clause-tails : goal.returns-clause-tails
returns-clause-tails c = tails_stand

pub returns-clause-head : goal.returns-clause-head
returns-clause-head c = marked_heads_stand
