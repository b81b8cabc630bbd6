use Rattle.queue_files.proofs.Purged.{purged_is_held, purged_is_queue, purged_stands}
use Rattle.queue_files.proofs.laws.a_page_may_go.Goals as goal

pub returns-clause-queue : goal.returns-clause-queue
returns-clause-queue c = purged_is_queue

pub returns-clause-stands : goal.returns-clause-stands
returns-clause-stands c = purged_stands

pub returns-clause-held : goal.returns-clause-held
returns-clause-held c = purged_is_held
