use Rattle.std.proofs.Common.{◌≡◌, drop}
use Rattle.event_tree.specs.Paths.{wrap_size}
use Rattle.event_tree.specs.Sizes.{less}
use Rattle.event_tree.specs.Sound.{are_texts}
use Rattle.event_tree.proofs.measure.room_after_parts.Given as goal

abbrev pub invariant-loop-part : goal.invariant-loop-part
invariant-loop-part l = record {
  room : less l.left (wrap_size (drop l.part-index l.parts)) ≡ less l.room (wrap_size l.parts);
  texts : are_texts (drop l.part-index l.parts) ≡ are_texts l.parts;
}
