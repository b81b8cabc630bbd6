use Rattle.in_lines.proofs.Reading.{one_behind}
use Rattle.in_lines.proofs.laws.one_place_is_behind_the_lines.Goals as goal

pub returns : goal.returns
returns c = one_behind
