use Rattle.std.proofs.Common.{◌≡◌, ◌-◌, ◌≤◌, ◌++◌, drop, length}
use Rattle.event_tree.specs.PathTexts.{AreNames, bracketed}
use Rattle.event_tree.proofs.path.read_bracketed.Given as goal

abbrev pub invariant-loop-at : goal.invariant-loop-at
invariant-loop-at l = record {
  names : AreNames l.parts;
  within : l.at ≤ length l.text;
  front : l.text ≡ bracketed l.parts ++ drop l.at l.text;
  at_end : l.at ≡ length (bracketed l.parts);
}

abbrev pub decreases-loop-at : goal.decreases-loop-at
decreases-loop-at l = length l.text - l.at
