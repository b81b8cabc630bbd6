use Rattle.std.proofs.Common.{◌≡◌, ◌++◌, drop}
use Rattle.graph_checks.specs.Wants.{so_often}
use Rattle.graph_checks.proofs.drawing.repeated.Given as goal

abbrev pub invariant-loop-want : goal.invariant-loop-want
invariant-loop-want l = l.found ++ so_often l.count (drop l.want-index l.wants) ≡ so_often l.count l.wants
