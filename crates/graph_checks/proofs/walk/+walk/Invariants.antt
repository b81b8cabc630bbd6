use Rattle.graph_checks.specs.Points.{points_in, points_in_arm}
use Rattle.graph_checks.proofs.Walking.{WalkedSoFar}
use Rattle.graph_checks.proofs.walk.+walk.Given as goal

abbrev pub invariant-check_statements-loop-statement : goal.invariant-check_statements-loop-statement
invariant-check_statements-loop-statement g l = WalkedSoFar g.B.Boxes.stand g.B.Boxes.links l.kind points_in l.statements l.statement-index l.fn.boxes l.boxes l.fn.walk l.walk

abbrev pub invariant-check_arms-loop-arm : goal.invariant-check_arms-loop-arm
invariant-check_arms-loop-arm g l = WalkedSoFar g.B.Boxes.stand g.B.Boxes.links l.kind points_in_arm l.arms l.arm-index l.fn.boxes l.boxes l.fn.walk l.walk
