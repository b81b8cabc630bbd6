use Rattle.std.proofs.Common.{map, drop}
use Rattle.event_flow.specs.Parts.{parts_of, branch, arm_of}
use Rattle.event_flow.proofs.Layings.{LaidSoFar, ArmsSoFar}
use Rattle.event_flow.proofs.flattening.+flatten.Given as goal

abbrev pub invariant-flatten-loop-statement : goal.invariant-flatten-loop-statement
invariant-flatten-loop-statement l = LaidSoFar (parts_of l.fn.statements) (parts_of (drop l.statement-index l.statements)) l.fn.plugin l.fn.condition l.laid.plugin l.laid.condition l.laid.steps

abbrev pub invariant-flatten_arms-loop-arm : goal.invariant-flatten_arms-loop-arm
invariant-flatten_arms-loop-arm l = ArmsSoFar (branch (map arm_of l.fn.arms)) (branch (map arm_of (drop l.arm-index l.arms))) l.fn.plugin l.fn.condition l.next_plugin l.next_condition l.blocks
