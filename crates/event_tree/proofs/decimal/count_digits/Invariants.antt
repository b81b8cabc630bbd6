use Rattle.std.proofs.Common.{◌≡◌, ◌++◌, take, drop}
use Rattle.event_tree.specs.NumberTexts.{digits_front, digits_behind}
use Rattle.event_tree.proofs.decimal.count_digits.Given as goal

abbrev pub invariant-loop-index : goal.invariant-loop-index
invariant-loop-index l = record {
  front : take l.index l.bytes ++ digits_front (drop l.index l.bytes) ≡ digits_front l.bytes;
  behind : digits_behind (drop l.index l.bytes) ≡ digits_behind l.bytes;
}
