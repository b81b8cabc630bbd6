use Rattle.std.proofs.Common.{◌≡◌, drop, false}
use Rattle.graph_checks.specs.Inputs.{is_many}
use Rattle.graph_checks.proofs.inputs.is_many.Given as goal

abbrev pub invariant-loop-byte : goal.invariant-loop-byte
invariant-loop-byte l = is_many l.found (drop l.byte-index l.path) ≡ is_many false l.path
