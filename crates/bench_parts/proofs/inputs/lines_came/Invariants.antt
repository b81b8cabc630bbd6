use Rattle.std.proofs.Common.{◌≡◌}
use Rattle.bench_parts.proofs.inputs.lines_came.Given as goal

abbrev pub invariant-loop-made : goal.invariant-loop-made
invariant-loop-made l = l.input.connections ≡ l.fn.input.connections
