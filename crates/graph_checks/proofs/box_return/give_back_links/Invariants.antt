use Rattle.std.proofs.Common.{◌≡◌, length}
use Rattle.foreign_parts.specs.declared.boxes.BoxKind.TheVariants as kind
use Rattle.graph_checks.specs.Linked.{LinksMayGoBack, links_back}
use Rattle.graph_checks.proofs.box_return.give_back_links.Given as goal

abbrev pub invariant-loop-address : goal.invariant-loop-address
invariant-loop-address g l = record {
  may : LinksMayGoBack l.left.items (g.B.Boxes.links l.rack);
  back : links_back l.left.items (g.B.Boxes.links l.rack) ≡ links_back l.fn.links.items (g.B.Boxes.links l.fn.rack);
  filters : (g.B.Boxes.stand l.rack kind.Filter).stocks ≡ (g.B.Boxes.stand l.fn.rack kind.Filter).stocks;
  outputs : (g.B.Boxes.stand l.rack kind.Output).stocks ≡ (g.B.Boxes.stand l.fn.rack kind.Output).stocks;
  given : g.B.BoxPool.given l.rack ≡ g.B.BoxPool.given l.fn.rack;
}

abbrev pub decreases-loop-address : goal.decreases-loop-address
decreases-loop-address g l = length l.left.items
