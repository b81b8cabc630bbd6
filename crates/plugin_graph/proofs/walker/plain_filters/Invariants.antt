use Rattle.std.proofs.Common.{◌≡◌, ◌++◌, drop, map}
use Rattle.plugin_graph.specs.Walks.{is_plain}
use Rattle.plugin_graph.proofs.walker.plain_filters.Given as goal

abbrev pub invariant-loop-filter : goal.invariant-loop-filter
invariant-loop-filter g l = l.plain ++ map (λ f. is_plain f.filter) (drop l.filter-index l.filters) ≡ map (λ f. is_plain f.filter) l.filters
