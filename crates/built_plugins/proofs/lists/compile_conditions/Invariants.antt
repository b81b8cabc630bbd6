use Rattle.std.proofs.Common.{◌≡◌, length}
use Rattle.std.specs.Vec.Iter.{into_iter_len}
use Rattle.built_plugins.proofs.Making.{behind}
use Rattle.built_plugins.specs.Conditions.{compiled}
use Rattle.built_plugins.specs.Each.{each_made}
use Rattle.built_plugins.proofs.lists.compile_conditions.Given as goal

abbrev pub invariant-loop-condition : goal.invariant-loop-condition
invariant-loop-condition l = record {
  so_far : behind l.found (each_made compiled l.condition-iterator.rest.items) ≡ each_made compiled l.fn.conditions;
  counted : into_iter_len l.condition-iterator ≡ length l.condition-iterator.rest.items;
}
