use Rattle.std.proofs.Common.{◌≡◌, length}
use Rattle.std.specs.Vec.Iter.{into_iter_len}
use Rattle.line_core.proofs.InputsOpened.{SoFar}
use Rattle.line_core.proofs.opening.open_inputs.Given as goal

abbrev pub invariant-loop-input : goal.invariant-loop-input
invariant-loop-input g l = record {
  run : SoFar g.S.Store g.P.Files l.fn.folder l.watched l.inputs.items l.input-iterator.rest.items l.fn.store l.store l.fn.files l.files;
  counted : into_iter_len l.input-iterator ≡ length l.input-iterator.rest.items;
}
