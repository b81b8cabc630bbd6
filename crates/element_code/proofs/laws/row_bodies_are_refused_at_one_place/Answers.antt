use Rattle.element_code.proofs.RowReads.{one_row_place}
use Rattle.element_code.proofs.laws.row_bodies_are_refused_at_one_place.Goals as goal

pub returns : goal.returns
returns c = one_row_place
