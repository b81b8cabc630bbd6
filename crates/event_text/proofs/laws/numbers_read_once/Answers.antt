use Rattle.event_text.proofs.LawLemmas.{number_once}
use Rattle.event_text.proofs.laws.numbers_read_once.Goals as goal

pub returns : goal.returns
returns c n m text a b h k = number_once n m text a b h k
