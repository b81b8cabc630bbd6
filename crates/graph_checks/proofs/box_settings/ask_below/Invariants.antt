use Rattle.std.proofs.Common.{◌≡◌, ◌≤◌, length}
use Rattle.foreign_parts.specs.Stocks.{left_of, refusals_of}
use Rattle.graph_checks.specs.Boxes.{Keeps, refused_below}
use Rattle.graph_checks.proofs.box_settings.ask_below.Given as goal

abbrev pub invariant-loop-left : goal.invariant-loop-left
invariant-loop-left g l =
    Keeps g.B.Boxes.stand g.B.Boxes.links l.fn.boxes l.boxes
    × (l.at ≤ length (left_of l.plugin.name (g.B.Boxes.stand l.fn.boxes l.kind).stocks))
    × (refused_below (refusals_of l.plugin.name (g.B.Boxes.stand l.fn.boxes l.kind).refusals) l.plugin.settings.list l.at l.left
    ≡ refused_below (refusals_of l.plugin.name (g.B.Boxes.stand l.fn.boxes l.kind).refusals) l.plugin.settings.list l.fn.next l.fn.wanted)

abbrev pub decreases-loop-left : goal.decreases-loop-left
decreases-loop-left g l = l.left
