use Rattle.std.proofs.Common.{◌≡◌, length}
use Rattle.std.specs.Vec.Iter.{into_iter_len}
use Rattle.event_text.specs.Options.{each_done}
use Rattle.filters_text.specs.Kv.{with_group}
use Rattle.filters_text.proofs.kv_filter.Kv.put_groups.Given as goal

abbrev pub invariant-loop-name : goal.invariant-loop-name
invariant-loop-name l = record {
  rest : each_done (with_group l.self) l.name-iterator.rest.items l.event ≡ each_done (with_group l.self) l.fn.groups l.fn.event;
  counted : into_iter_len l.name-iterator ≡ length l.name-iterator.rest.items;
}
