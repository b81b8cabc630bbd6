use Rattle.std.proofs.Common.{◌≡◌, ◌+◌, drop}
use Rattle.std.proofs.Common.{false}
use Rattle.config_lex.specs.Bytes.{skip}
use Rattle.config_lex.proofs.bytes.skip.Given as goal

abbrev pub invariant-loop-at : goal.invariant-loop-at
invariant-loop-at l = l.from + skip false (drop l.from l.bytes) ≡ l.at + skip l.inside (drop l.at l.bytes)
