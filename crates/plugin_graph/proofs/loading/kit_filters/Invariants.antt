use Rattle.std.proofs.Common.{◌≡◌, ◌++◌, length, map}
use Rattle.std.specs.Vec.Iter.{into_iter_len}
use Rattle.plugin_graph.specs.Kits.{boxes_of, no_boxes}
use Rattle.plugin_graph.proofs.loading.kit_filters.Given as goal

abbrev pub invariant-loop-filter : goal.invariant-loop-filter
invariant-loop-filter g l = record {
  so_far : map (λ f. f.filter) l.found ++ l.filter-iterator.rest.items ≡ l.fn.filters;
  boxes : boxes_of l.found ++ no_boxes l.filter-iterator.rest.items ≡ no_boxes l.fn.filters;
  counted : into_iter_len l.filter-iterator ≡ length l.filter-iterator.rest.items;
}
