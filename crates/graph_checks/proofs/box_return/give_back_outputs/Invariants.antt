use Rattle.std.proofs.Common.{◌≡◌, length}
use Rattle.foreign_parts.specs.declared.boxes.BoxKind.TheVariants as kind
use Rattle.foreign_parts.specs.Stocks.{IsOut}
use Rattle.graph_checks.specs.Drawings.{MayGoBack, all_back}
use Rattle.graph_checks.specs.Drawns.{boxes_of}
use Rattle.graph_checks.proofs.box_return.give_back_outputs.Given as goal

abbrev pub invariant-loop-drawn : goal.invariant-loop-drawn
invariant-loop-drawn g l = record {
  may : MayGoBack (λ ss n. IsOut (g.B.BoxPool.given l.fn.rack) (g.B.Boxes.stand l.fn.rack kind.Filter).stocks ss n) (boxes_of g.B.BoxPool.output_number l.left.items) (g.B.Boxes.stand l.rack kind.Output).stocks;
  back : all_back (boxes_of g.B.BoxPool.output_number l.left.items) (g.B.Boxes.stand l.rack kind.Output).stocks ≡ all_back (boxes_of g.B.BoxPool.output_number l.fn.boxes.items) (g.B.Boxes.stand l.fn.rack kind.Output).stocks;
  others : (g.B.Boxes.stand l.rack kind.Filter).stocks ≡ (g.B.Boxes.stand l.fn.rack kind.Filter).stocks;
  links : g.B.Boxes.links l.rack ≡ g.B.Boxes.links l.fn.rack;
  given : g.B.BoxPool.given l.rack ≡ g.B.BoxPool.given l.fn.rack;
}

abbrev pub decreases-loop-drawn : goal.decreases-loop-drawn
decreases-loop-drawn g l = length l.left.items
