use Rattle.std.proofs.Common.{◌≡◌, ◌++◌, map, length}
use Rattle.std.specs.Vec.Iter.{into_iter_len}
use Rattle.event_text.specs.Options.{with_options}
use Rattle.plugin_graph.proofs.kit_filter.with_options.Given as goal

abbrev pub invariant-loop-event : goal.invariant-loop-event
invariant-loop-event l = record {
  so_far : l.changed ++ map (with_options l.options) l.event-iterator.rest.items ≡ map (with_options l.options) l.fn.events;
  counted : into_iter_len l.event-iterator ≡ length l.event-iterator.rest.items;
}
