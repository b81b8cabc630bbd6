use Rattle.std.proofs.Common.{◌≡◌, ◌+◌, drop}
use Rattle.std.specs.List.{sum_by}
use Rattle.built_plugins.specs.Conditions.{condition_patterns}
use Rattle.plugin_graph.proofs.counting.in_conditions.Given as goal

abbrev pub invariant-loop-condition : goal.invariant-loop-condition
invariant-loop-condition l = l.count + sum_by condition_patterns (drop l.condition-index l.conditions) ≡ sum_by condition_patterns l.conditions
