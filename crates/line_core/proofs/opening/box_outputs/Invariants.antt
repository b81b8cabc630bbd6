use Rattle.std.proofs.Common.{◌≡◌, ◌++◌, length, map}
use Rattle.std.specs.Vec.Iter.{into_iter_len}
use Rattle.line_core.proofs.opening.box_outputs.Given as goal

abbrev pub invariant-loop-drawn : goal.invariant-loop-drawn
invariant-loop-drawn g l = record {
  so_far : map (λ b. g.O.OutputCall.number b.output) l.boxes.items ++ map (λ d. g.O.OutputCall.number d.plugged) l.drawn-iterator.rest.items ≡ map (λ d. g.O.OutputCall.number d.plugged) l.fn.outputs.items;
  counted : into_iter_len l.drawn-iterator ≡ length l.drawn-iterator.rest.items;
}
