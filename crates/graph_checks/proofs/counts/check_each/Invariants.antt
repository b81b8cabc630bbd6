use Rattle.std.proofs.Common.{◌≡◌}
use Rattle.graph_checks.specs.Whole.{spares_checked}
use Rattle.graph_checks.proofs.counts.check_each.Given as goal

abbrev pub invariant-loop-name : goal.invariant-loop-name
invariant-loop-name g l = spares_checked (g.B.Boxes.stand l.boxes l.kind) l.each l.name-iterator ≡ spares_checked (g.B.Boxes.stand l.boxes l.kind) l.each l.names.entries
