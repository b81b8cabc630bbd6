use Rattle.in_lines.proofs.Beside.{each_source, one_source}
use Rattle.in_lines.proofs.laws.each_source_has_the_lines_of_its_polls.Goals as goal

pub returns : goal.returns
returns c = record { each = each_source; alone = one_source }
