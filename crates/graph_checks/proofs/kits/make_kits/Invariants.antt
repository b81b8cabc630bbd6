use Rattle.std.proofs.Common.{◌≡◌, All, length}
use Rattle.graph_checks.specs.Plans.{HasNoBox, IsKitOf}
use Rattle.graph_checks.proofs.kits.make_kits.Given as goal

abbrev pub invariant-loop : goal.invariant-loop
invariant-loop g l = record {
  kits : All (IsKitOf l.draws l.config) l.kits.items;
  boxes : All HasNoBox l.kits.items;
  count : length l.kits.items ≡ l.counter;
}
