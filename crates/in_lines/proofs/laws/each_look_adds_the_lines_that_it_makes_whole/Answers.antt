use Rattle.in_lines.proofs.Beside.{look_adds}
use Rattle.in_lines.proofs.laws.each_look_adds_the_lines_that_it_makes_whole.Goals as goal

pub returns : goal.returns
returns c = look_adds
