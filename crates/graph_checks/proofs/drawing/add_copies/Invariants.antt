use Rattle.std.proofs.Common.{◌≡◌, ◌++◌, replicate}
use Rattle.graph_checks.proofs.drawing.add_copies.Given as goal

abbrev pub invariant-loop : goal.invariant-loop
invariant-loop l = l.to ≡ l.fn.to ++ replicate l.counter l.want
