use Rattle.std.proofs.Common.{◌≡◌, [], length, reverse}
use Rattle.event_flow.specs.Laying.{assembled}
use Rattle.event_flow.proofs.assembling.assemble.Given as goal

abbrev pub invariant-loop-block : goal.invariant-loop-block
invariant-loop-block l = assembled l.left (reverse l.back) ≡ assembled l.fn.blocks []

abbrev pub decreases-loop-block : goal.decreases-loop-block
decreases-loop-block l = length l.left
