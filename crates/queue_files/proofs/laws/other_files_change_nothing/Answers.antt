use Rattle.queue_files.proofs.OwnFiles.{found_beside, kept_beside}
use Rattle.queue_files.proofs.laws.other_files_change_nothing.Goals as goal

pub returns-clause-found : goal.returns-clause-found
returns-clause-found c = found_beside

pub returns-clause-kept : goal.returns-clause-kept
returns-clause-kept c = kept_beside
