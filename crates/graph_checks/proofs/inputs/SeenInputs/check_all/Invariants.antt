use Rattle.std.proofs.Common.{◌≡◌, drop}
use Rattle.graph_checks.specs.Answers.{all_checked}
use Rattle.graph_checks.specs.Inputs.{input_checked}
use Rattle.graph_checks.proofs.inputs.SeenInputs.check_all.Given as goal

abbrev pub invariant-loop-input : goal.invariant-loop-input
invariant-loop-input l = all_checked input_checked (drop l.input-index l.inputs) l.self ≡ all_checked input_checked l.inputs l.fn.self
