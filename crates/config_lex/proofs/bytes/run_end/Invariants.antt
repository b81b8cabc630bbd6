use Rattle.std.proofs.Common.{◌≡◌, ◌<◌, ◌+◌, ◌-◌, drop, get_or, true}
use Rattle.config_lex.specs.Bytes.{passing, passes}
use Rattle.config_lex.proofs.bytes.run_end.Given as goal

abbrev pub invariant-loop-at : goal.invariant-loop-at
invariant-loop-at l = record {
  same : l.from + passing (passes l.test) (drop l.from l.bytes) ≡ l.at + passing (passes l.test) (drop l.at l.bytes);
  last : l.from < l.at → passes l.test (get_or l.bytes (l.at - 1) 0) ≡ true;
}
