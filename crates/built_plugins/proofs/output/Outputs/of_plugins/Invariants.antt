use Rattle.std.proofs.Common.{◌≡◌, ◌+◌, drop}
use Rattle.built_plugins.specs.Numbering.{outputs_behind, outputs_of}
use Rattle.built_plugins.proofs.output.Outputs.of_plugins.Given as goal

abbrev pub invariant-loop-at : goal.invariant-loop-at
invariant-loop-at l = outputs_behind l.draws l.outputs (l.at + 1) (drop l.at l.plugins) ≡ outputs_of l.draws l.plugins
