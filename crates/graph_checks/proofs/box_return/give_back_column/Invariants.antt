use Rattle.std.proofs.Common.{◌≡◌}
use Rattle.foreign_parts.specs.declared.boxes.BoxKind.TheVariants as kind
use Rattle.foreign_parts.specs.Stocks.{IsOut}
use Rattle.graph_checks.proofs.Returnings.{WentBack}
use Rattle.graph_checks.proofs.box_return.give_back_column.Given as goal

abbrev pub invariant-loop-next : goal.invariant-loop-next
invariant-loop-next g l = record {
  went : WentBack g.B.BoxPool.filter_number (λ ss n. IsOut (g.B.BoxPool.given l.fn.rack) ss (g.B.Boxes.stand l.fn.rack kind.Output).stocks n) l.at l.fn.kits.items (g.B.Boxes.stand l.fn.rack kind.Filter).stocks l.next l.kits.items (g.B.Boxes.stand l.rack kind.Filter).stocks;
  others : (g.B.Boxes.stand l.rack kind.Output).stocks ≡ (g.B.Boxes.stand l.fn.rack kind.Output).stocks;
  links : g.B.Boxes.links l.rack ≡ g.B.Boxes.links l.fn.rack;
  given : g.B.BoxPool.given l.rack ≡ g.B.BoxPool.given l.fn.rack;
}

abbrev pub decreases-loop-next : goal.decreases-loop-next
decreases-loop-next g l = l.next
