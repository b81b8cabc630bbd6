use Rattle.std.proofs.Common.{map}
use Rattle.plugin_graph.specs.Graphs.{contents_of}
use Rattle.graph_checks.specs.Plans.{width}
use Rattle.graph_checks.proofs.Fillings.{HandedOut}
use Rattle.graph_checks.proofs.kit_boxes.hand_out.Given as goal

abbrev pub invariant-loop-at : goal.invariant-loop-at
invariant-loop-at g l = HandedOut (width (map contents_of l.fn.kits.items)) l.fn.kits.items l.fn.boxes.items l.at l.kits.items l.left.items

abbrev pub decreases-loop-at : goal.decreases-loop-at
decreases-loop-at g l = l.at
