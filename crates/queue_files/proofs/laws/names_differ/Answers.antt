use Rattle.queue_files.proofs.ApartNames.{names_apart}
use Rattle.queue_files.proofs.laws.names_differ.Goals as goal

pub returns : goal.returns
returns c = names_apart
