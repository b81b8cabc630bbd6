use Rattle.std.proofs.Common.{◌≡◌, ◌++◌, length}
use Rattle.std.specs.Vec.Iter.{into_iter_len}
use Rattle.built_plugins.specs.Each.{named}
use Rattle.built_plugins.proofs.lists.add_named.Given as goal

abbrev pub invariant-loop-condition : goal.invariant-loop-condition
invariant-loop-condition l = record {
  so_far : l.to ++ named l.section l.number l.condition-iterator.rest.items ≡ l.fn.to ++ named l.section 1 l.fn.conditions;
  counted : into_iter_len l.condition-iterator ≡ length l.condition-iterator.rest.items;
}
