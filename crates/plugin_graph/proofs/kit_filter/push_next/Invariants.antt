use Rattle.std.proofs.Common.{◌≡◌, ◌++◌, [], map, length}
use Rattle.std.specs.Vec.Iter.{into_iter_len}
use Rattle.event_flow.specs.declared.cell.Cell.TheVariants as cell
use Rattle.plugin_graph.proofs.kit_filter.push_next.Given as goal

abbrev pub invariant-loop-event : goal.invariant-loop-event
invariant-loop-event l = record {
  so_far : l.to ++ map (λ e. cell.At 0 e []) l.event-iterator.rest.items ≡ l.fn.to ++ map (λ e. cell.At 0 e []) l.fn.events;
  counted : into_iter_len l.event-iterator ≡ length l.event-iterator.rest.items;
}
