use Rattle.std.proofs.Common.{◌≡◌, ◌≤◌, ◌<◌}
use Rattle.event_tree.specs.NumberTexts.{tens}
use Rattle.event_tree.proofs.significand.raised.Given as goal

abbrev pub invariant-loop-left : goal.invariant-loop-left
invariant-loop-left l = record {
  some : 0 < l.raised;
  within : l.raised ≤ l.limit;
  same : tens l.raised l.left ≡ tens l.value l.zeros;
}

abbrev pub decreases-loop-left : goal.decreases-loop-left
decreases-loop-left l = l.left
