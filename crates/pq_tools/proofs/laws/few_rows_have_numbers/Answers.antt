use Rattle.pq_tools.proofs.FewRows.{few_have_numbers}
use Rattle.pq_tools.proofs.laws.few_rows_have_numbers.Goals as goal

pub returns : goal.returns
returns g = few_have_numbers
