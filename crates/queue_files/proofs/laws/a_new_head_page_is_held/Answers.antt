use Rattle.queue_files.proofs.Rolled.{rolled_is_held, rolled_is_queue}
use Rattle.queue_files.proofs.laws.a_new_head_page_is_held.Goals as goal

pub returns-clause-queue : goal.returns-clause-queue
returns-clause-queue c = rolled_is_queue

pub returns-clause-held : goal.returns-clause-held
returns-clause-held c = rolled_is_held
