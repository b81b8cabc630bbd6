use Rattle.std.proofs.Common.{◌≡◌, ◌++◌, length}
use Rattle.std.specs.Vec.Iter.{into_iter_len}
use Rattle.built_plugins.specs.Numbering.{targets_of}
use Rattle.built_plugins.proofs.output.Outputs.add_targets.Given as goal

abbrev pub invariant-loop-place : goal.invariant-loop-place
invariant-loop-place l = record {
  so_far : l.self.targets ++ targets_of l.id l.place-iterator.rest.items ≡ l.fn.self.targets ++ targets_of l.id l.fn.places;
  same : l.self.outputs ≡ l.fn.self.outputs;
  counted : into_iter_len l.place-iterator ≡ length l.place-iterator.rest.items;
}
