-- How many patterns stand in a kit.
use Rattle.std.specs.Prelude.{ℕ, ◌+◌}
use Rattle.std.specs.List.{sum_by}
use Rattle.built_plugins.specs.Conditions.{condition_patterns}
use Rattle.built_plugins.specs.Counts.{filter_patterns}
use Rattle.plugin_graph.specs.Loads.{Contents}

-- those of the filters and those of the conditions
abbrev pub patterns_in : Contents → ℕ
patterns_in c = sum_by filter_patterns c.filters + sum_by condition_patterns c.conditions
