use Rattle.std.proofs.Common.{◌≡◌, ◌≤◌, ◌++◌, ◌-◌, drop, take, string_bytes}
use Rattle.std.specs.Str.{IsCharBoundary}
use Rattle.config_print.specs.Tokens.{escaped}
use Rattle.config_print.proofs.tokens.add_escaped.Given as goal

abbrev pub invariant-loop-at : goal.invariant-loop-at
invariant-loop-at l = record {
  behind : l.from ≤ l.at;
  boundary : IsCharBoundary l.text l.from;
  same : string_bytes l.to ++ (take (l.at - l.from) (drop l.from l.text) ++ escaped (drop l.at l.text)) ≡ string_bytes l.fn.to ++ escaped l.text;
}
