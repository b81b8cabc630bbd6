use Rattle.dead_letters.proofs.NamesApart.{names_differ}
use Rattle.dead_letters.proofs.laws.names_differ.Goals as goal

pub returns : goal.returns
returns c = names_differ
