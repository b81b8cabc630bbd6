use Rattle.std.proofs.Common.{◌≡◌, ◌≤◌, ◌+◌, ◌++◌, length, map, vec_capacity}
use Rattle.std.specs.Vec.Iter.{into_iter_len}
use Rattle.foreign_parts.specs.declared.boxes.BoxKind.TheVariants as kind
use Rattle.foreign_parts.specs.Stocks.{IsOut}
use Rattle.graph_checks.specs.Drawings.{AreDrawn}
use Rattle.graph_checks.specs.Drawns.{boxes_of}
use Rattle.graph_checks.specs.Wants.{AreLeft, names_of}
use Rattle.graph_checks.proofs.drawing.draw_filters.Given as goal

abbrev pub invariant-loop-want : goal.invariant-loop-want
invariant-loop-want g l = record {
  drawn : AreDrawn (λ ss n. IsOut (g.B.BoxPool.given l.fn.rack) ss (g.B.Boxes.stand l.fn.rack kind.Output).stocks n) (boxes_of g.B.BoxPool.filter_number l.drawn.items) (g.B.Boxes.stand l.fn.rack kind.Filter).stocks (g.B.Boxes.stand l.rack kind.Filter).stocks;
  left : AreLeft (names_of l.want-iterator.rest.items) (g.B.Boxes.stand l.rack kind.Filter).stocks;
  wants : map (λ d. d.want) l.drawn.items ++ l.want-iterator.rest.items ≡ l.fn.wants;
  room : length l.drawn.items + length l.want-iterator.rest.items ≤ vec_capacity l.drawn;
  others : (g.B.Boxes.stand l.rack kind.Output).stocks ≡ (g.B.Boxes.stand l.fn.rack kind.Output).stocks;
  links : g.B.Boxes.links l.rack ≡ g.B.Boxes.links l.fn.rack;
  given : g.B.BoxPool.given l.rack ≡ g.B.BoxPool.given l.fn.rack;
  counted : into_iter_len l.want-iterator ≡ length l.want-iterator.rest.items;
}
