use Rattle.std.proofs.Common.{◌≡◌, ◌++◌, length}
use Rattle.std.specs.Vec.Iter.{into_iter_len}
use Rattle.event_flow.specs.Places.{once}
use Rattle.built_plugins.proofs.Onces.{others}
use Rattle.built_plugins.proofs.places.once.Given as goal

abbrev pub invariant-loop-text : goal.invariant-loop-text
invariant-loop-text l = record {
  so_far : l.found ++ others l.found (once l.text-iterator.rest.items) ≡ once l.fn.texts;
  counted : into_iter_len l.text-iterator ≡ length l.text-iterator.rest.items;
}
