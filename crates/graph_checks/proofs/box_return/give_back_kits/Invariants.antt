use Rattle.std.proofs.Common.{◌≡◌}
use Rattle.foreign_parts.specs.declared.boxes.BoxKind.TheVariants as kind
use Rattle.foreign_parts.specs.Stocks.{IsOut}
use Rattle.graph_checks.specs.Drawings.{MayGoBack, all_back}
use Rattle.graph_checks.specs.Drawns.{boxes_of}
use Rattle.graph_checks.specs.Plans.{boxes_of_kits, columns, rows}
use Rattle.graph_checks.proofs.box_return.give_back_kits.Given as goal

abbrev pub invariant-loop-at : goal.invariant-loop-at
invariant-loop-at g l = record {
  may : MayGoBack (λ ss n. IsOut (g.B.BoxPool.given l.fn.rack) ss (g.B.Boxes.stand l.fn.rack kind.Output).stocks n) (boxes_of g.B.BoxPool.filter_number (columns l.at (rows l.kits.items))) (g.B.Boxes.stand l.rack kind.Filter).stocks;
  back : all_back (boxes_of g.B.BoxPool.filter_number (columns l.at (rows l.kits.items))) (g.B.Boxes.stand l.rack kind.Filter).stocks ≡ all_back (boxes_of g.B.BoxPool.filter_number (boxes_of_kits l.fn.kits.items)) (g.B.Boxes.stand l.fn.rack kind.Filter).stocks;
  others : (g.B.Boxes.stand l.rack kind.Output).stocks ≡ (g.B.Boxes.stand l.fn.rack kind.Output).stocks;
  links : g.B.Boxes.links l.rack ≡ g.B.Boxes.links l.fn.rack;
  given : g.B.BoxPool.given l.rack ≡ g.B.BoxPool.given l.fn.rack;
}

abbrev pub decreases-loop-at : goal.decreases-loop-at
decreases-loop-at g l = l.at
