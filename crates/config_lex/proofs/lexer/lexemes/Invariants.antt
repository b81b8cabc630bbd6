use Rattle.std.proofs.Common.{◌≡◌, ◌≤◌, ◌++◌, length}
use Rattle.config_lex.specs.Lexemes.{lexed, lexemes}
use Rattle.config_lex.proofs.lexer.lexemes.Given as goal

abbrev pub invariant-loop-turns : goal.invariant-loop-turns
invariant-loop-turns l = record {
  within : l.at ≤ length l.text;
  same : l.found ++ lexed l.turns l.at l.context l.text ≡ lexemes l.text;
}

abbrev pub decreases-loop-turns : goal.decreases-loop-turns
decreases-loop-turns l = l.turns
