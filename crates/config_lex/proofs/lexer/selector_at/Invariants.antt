use Rattle.std.proofs.Common.{◌≡◌, ◌≤◌, ◌+◌, [], length, drop}
use Rattle.config_lex.specs.Lexemes.{parts_at, selector_length}
use Rattle.config_lex.proofs.lexer.selector_at.Given as goal

abbrev pub invariant-loop-turns : goal.invariant-loop-turns
invariant-loop-turns l = record {
  within : l.at ≤ length l.text;
  length_is : l.at ≡ l.from + selector_length l.parts;
  same : parts_at l.turns l.parts (drop l.at l.text) ≡ parts_at (length (drop l.from l.text)) [] (drop l.from l.text);
}

abbrev pub decreases-loop-turns : goal.decreases-loop-turns
decreases-loop-turns l = l.turns
