use Rattle.std.proofs.Common.{◌≡◌, ◌+◌, ◌-◌, drop, option_map}
use Rattle.std.proofs.Common.{false}
use Rattle.config_lex.specs.Bytes.{closing}
use Rattle.config_lex.proofs.bytes.closing.Given as goal

abbrev pub invariant-loop-at : goal.invariant-loop-at
invariant-loop-at l = closing l.close false (drop l.from l.bytes) ≡ option_map (λ n. (l.at - l.from) + n) (closing l.close l.escaped (drop l.at l.bytes))
