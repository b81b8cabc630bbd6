use Rattle.std.proofs.Common.{◌≡◌, ◌≤◌, drop}
use Rattle.event_tree.specs.Paths.{digits, digits_from, at_most}
use Rattle.event_tree.proofs.place.number_in.Given as goal

abbrev pub invariant-loop-byte : goal.invariant-loop-byte
invariant-loop-byte l = record {
  fits : l.number ≤ l.limit;
  same : at_most l.limit (digits_from l.number (drop l.byte-index l.bytes)) ≡ at_most l.limit (digits l.bytes);
}
