use Rattle.std.proofs.Common.{◌≡◌, ◌≤◌, ◌+◌, ◌++◌, length, vec_capacity}
use Rattle.std.specs.Vec.Iter.{into_iter_len}
use Rattle.foreign_parts.specs.declared.boxes.BoxKind.TheVariants as kind
use Rattle.graph_checks.specs.Linked.{all_taken, links_there}
use Rattle.graph_checks.proofs.drawing.draw_links.Given as goal

abbrev pub invariant-loop-address : goal.invariant-loop-address
invariant-loop-address g l = record {
  links : l.taken.items ++ links_there l.address-iterator.rest.items (g.B.Boxes.links l.rack) ≡ links_there l.fn.addresses (g.B.Boxes.links l.fn.rack);
  taken : all_taken l.address-iterator.rest.items (g.B.Boxes.links l.rack) ≡ all_taken l.fn.addresses (g.B.Boxes.links l.fn.rack);
  room : length l.taken.items + length l.address-iterator.rest.items ≤ vec_capacity l.taken;
  filters : (g.B.Boxes.stand l.rack kind.Filter).stocks ≡ (g.B.Boxes.stand l.fn.rack kind.Filter).stocks;
  outputs : (g.B.Boxes.stand l.rack kind.Output).stocks ≡ (g.B.Boxes.stand l.fn.rack kind.Output).stocks;
  given : g.B.BoxPool.given l.rack ≡ g.B.BoxPool.given l.fn.rack;
  counted : into_iter_len l.address-iterator ≡ length l.address-iterator.rest.items;
}
