use Rattle.queue_files.proofs.SameFiles.{held_stands, same_files_stand}
use Rattle.queue_files.proofs.laws.same_files_stand.Goals as goal

pub returns-clause-held : goal.returns-clause-held
returns-clause-held c = held_stands

pub returns-clause-same : goal.returns-clause-same
returns-clause-same c = same_files_stand
