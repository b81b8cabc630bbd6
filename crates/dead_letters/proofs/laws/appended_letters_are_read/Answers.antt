use Rattle.dead_letters.proofs.AppendedReads.{appended_are_read}
use Rattle.dead_letters.proofs.laws.appended_letters_are_read.Goals as goal

pub returns : goal.returns
returns c = appended_are_read
