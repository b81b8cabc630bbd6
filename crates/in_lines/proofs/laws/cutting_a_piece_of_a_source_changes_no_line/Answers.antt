use Rattle.in_lines.proofs.Beside.{beside-cut}
use Rattle.in_lines.proofs.laws.cutting_a_piece_of_a_source_changes_no_line.Goals as goal

pub returns : goal.returns
returns c = beside-cut
