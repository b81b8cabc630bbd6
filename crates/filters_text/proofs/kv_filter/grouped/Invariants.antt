use Rattle.std.proofs.Common.{◌≡◌, [], length}
use Rattle.std.specs.Vec.Iter.{into_iter_len}
use Rattle.filters_text.specs.Kv.{all_added}
use Rattle.filters_text.proofs.kv_filter.grouped.Given as goal

abbrev pub invariant-loop-name : goal.invariant-loop-name
invariant-loop-name l = record {
  rest : all_added l.duplicates l.groups l.name-iterator.rest.items ≡ all_added l.duplicates [] l.initial.name-iterator.rest.items;
  counted : into_iter_len l.name-iterator ≡ length l.name-iterator.rest.items;
}
