use Rattle.in_lines.proofs.Beside.{going_on}
use Rattle.in_lines.proofs.laws.looks_go_on_from_what_is_left.Goals as goal

pub returns : goal.returns
returns c = record { lines = λ limit looks more some on. (going_on limit looks more some on).0; left = λ limit n looks more some on. (going_on limit looks more some on).1 n }
