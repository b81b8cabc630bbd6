use Rattle.in_lines.proofs.Cutting.{lines_through-cut}
use Rattle.in_lines.proofs.laws.cutting_a_piece_changes_no_line.Goals as goal

pub returns : goal.returns
returns c = lines_through-cut
