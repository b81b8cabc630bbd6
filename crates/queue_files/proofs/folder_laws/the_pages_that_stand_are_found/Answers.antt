use Rattle.queue_files.proofs.StandingPages.{pages_are_found}
use Rattle.queue_files.proofs.folder_laws.the_pages_that_stand_are_found.Goals as goal

pub returns : goal.returns
returns c = pages_are_found
