use Rattle.element_code.proofs.OnePlace.{one_place}
use Rattle.element_code.proofs.laws.bytes_are_refused_at_one_place.Goals as goal

pub returns : goal.returns
returns c = one_place
