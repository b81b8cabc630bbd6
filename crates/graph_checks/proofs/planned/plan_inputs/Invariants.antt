use Rattle.std.proofs.Common.{◌≡◌, ◌++◌, ◌+◌, drop}
use Rattle.graph_checks.specs.Planned.{inputs_from}
use Rattle.graph_checks.proofs.planned.plan_inputs.Given as goal

abbrev pub invariant-loop-at : goal.invariant-loop-at
invariant-loop-at l = l.planned ++ inputs_from (l.at + 1) (drop l.at l.plugins) ≡ inputs_from 1 l.plugins
