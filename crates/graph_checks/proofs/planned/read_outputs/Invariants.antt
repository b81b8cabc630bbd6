use Rattle.std.proofs.Common.{◌≡◌, ◌++◌, drop, map}
use Rattle.graph_checks.specs.Planned.{output_at}
use Rattle.graph_checks.proofs.planned.read_outputs.Given as goal

abbrev pub invariant-loop-plugin : goal.invariant-loop-plugin
invariant-loop-plugin l = l.read ++ map output_at (drop l.plugin-index l.plugins) ≡ map output_at l.plugins
