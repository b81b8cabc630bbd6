use Rattle.graph_checks.proofs.Fillings.{SoFar}
use Rattle.graph_checks.proofs.kit_boxes.fill_column.Given as goal

abbrev pub invariant-loop-next : goal.invariant-loop-next
invariant-loop-next g l = SoFar l.at l.fn.kits.items l.fn.boxes.items l.next l.kits.items l.boxes.items

abbrev pub decreases-loop-next : goal.decreases-loop-next
decreases-loop-next g l = l.next
