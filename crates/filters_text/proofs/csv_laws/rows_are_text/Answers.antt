use Rattle.filters_text.proofs.Whole.{whole}
use Rattle.filters_text.proofs.csv_laws.rows_are_text.Goals as goal

pub returns : goal.returns
returns c = whole
