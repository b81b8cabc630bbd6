use Rattle.queue_files.proofs.NewFolders.{stays_new, first_is_held, first_is_empty}
use Rattle.queue_files.proofs.laws.a_new_folder_has_no_row.Goals as goal

pub returns-clause-new : goal.returns-clause-new
returns-clause-new c = stays_new

pub returns-clause-held : goal.returns-clause-held
returns-clause-held c = first_is_held

pub returns-clause-empty : goal.returns-clause-empty
returns-clause-empty c = first_is_empty
