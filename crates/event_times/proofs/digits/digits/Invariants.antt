use Rattle.std.proofs.Common.{◌≡◌, ◌-◌, ◌<◌, ◌≤◌, ◌^◌}
use Rattle.event_times.specs.Digits.{digits_behind}
use Rattle.event_times.proofs.digits.digits.Given as goal

abbrev pub invariant-loop-left : goal.invariant-loop-left
invariant-loop-left l = record {
  few : l.left ≤ l.count;
  within : l.number < 10 ^ (l.count - l.left);
  same : digits_behind l.number l.left l.rest ≡ digits_behind 0 l.count l.text;
}

abbrev pub decreases-loop-left : goal.decreases-loop-left
decreases-loop-left l = l.left
