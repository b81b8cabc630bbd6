use Rattle.std.proofs.Common.{◌≡◌, ◌++◌, map, length}
use Rattle.std.specs.Vec.Iter.{into_iter_len}
use Rattle.event_tree.specs.declared.value.Value.TheVariants as v
use Rattle.filters_text.proofs.kv_filter.values_of.Given as goal

abbrev pub invariant-loop-text : goal.invariant-loop-text
invariant-loop-text l = record {
  rest : l.values ++ map v.Text l.text-iterator.rest.items ≡ map v.Text l.fn.texts;
  counted : into_iter_len l.text-iterator ≡ length l.text-iterator.rest.items;
}
