use Rattle.std.proofs.Common.{◌-◌, ◌≤◌, length}
use Rattle.plain_data.proofs.FindLemmas.{find_member, first_not_below, first_above}
use Rattle.plain_data.proofs.fields.find.Given as goal

-- the key's place is between the two ends
abbrev pub invariant-loop-low : goal.invariant-loop-low
invariant-loop-low g l = record {
  front : l.low ≤ first_not_below (find_member l.key l.members);
  back : first_above (find_member l.key l.members) ≤ l.high;
  within : l.high ≤ length l.members;
}

abbrev pub decreases-loop-low : goal.decreases-loop-low
decreases-loop-low g l = l.high - l.low
