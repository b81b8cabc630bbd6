use Rattle.std.proofs.Common.{◌≡◌, ◌+◌, drop}
use Rattle.std.specs.List.{sum_by}
use Rattle.built_plugins.specs.Counts.{filter_patterns}
use Rattle.plugin_graph.proofs.counting.in_filters.Given as goal

abbrev pub invariant-loop-filter : goal.invariant-loop-filter
invariant-loop-filter g l = l.count + sum_by (λ f. filter_patterns f.filter) (drop l.filter-index l.filters) ≡ sum_by (λ f. filter_patterns f.filter) l.filters
