use Rattle.std.proofs.Common.{◌≡◌, length}
use Rattle.line_core.specs.Readiness.{connections_by, watched_by}
use Rattle.line_core.proofs.marking.settle_all.Given as goal

abbrev pub invariant-loop-at : goal.invariant-loop-at
invariant-loop-at l = record {
  files : watched_by l.inputs.items ≡ watched_by l.fn.inputs.items;
  connections : connections_by l.inputs.items ≡ connections_by l.fn.inputs.items;
  many : length l.inputs.items ≡ length l.fn.inputs.items;
}
