use Rattle.std.proofs.Common.{◌≡◌, ◌≤◌, ◌++◌, ◌-◌, drop, take, string_bytes}
use Rattle.std.specs.Str.{IsCharBoundary}
use Rattle.config_lex.specs.Bytes.{unescaped}
use Rattle.config_lex.proofs.lexer.unescaped.Given as goal

abbrev pub invariant-loop-at : goal.invariant-loop-at
invariant-loop-at l = record {
  behind : l.from ≤ l.at;
  boundary : IsCharBoundary l.text l.from;
  same : string_bytes l.made ++ (take (l.at - l.from) (drop l.from l.text) ++ unescaped (drop l.at l.text)) ≡ unescaped l.text;
}
