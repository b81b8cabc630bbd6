use Rattle.std.proofs.Common.{◌≡◌, ◌≤◌, length, take}
use Rattle.config_lex.specs.Bytes.{without_zeros}
use Rattle.config_lex.proofs.bytes.without_zeros.Given as goal

abbrev pub invariant-loop-end : goal.invariant-loop-end
invariant-loop-end l = record {
  within : l.end ≤ length l.digits;
  same : without_zeros (take l.end l.digits) ≡ without_zeros l.digits;
}

abbrev pub decreases-loop-end : goal.decreases-loop-end
decreases-loop-end l = l.end
