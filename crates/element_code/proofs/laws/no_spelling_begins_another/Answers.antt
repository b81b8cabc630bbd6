use Rattle.element_code.proofs.Sound.{none_begins}
use Rattle.element_code.proofs.laws.no_spelling_begins_another.Goals as goal

pub returns : goal.returns
returns c = none_begins
