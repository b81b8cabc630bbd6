use Rattle.slot_files.proofs.PathNames.{names_differ}
use Rattle.slot_files.proofs.position_laws.names_differ.Goals as goal

pub returns : goal.returns
returns c = names_differ
