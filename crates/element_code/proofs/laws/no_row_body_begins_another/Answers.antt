use Rattle.element_code.proofs.RowReads.{no_row_begins_another}
use Rattle.element_code.proofs.laws.no_row_body_begins_another.Goals as goal

pub returns : goal.returns
returns c = no_row_begins_another
