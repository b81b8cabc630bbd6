use Rattle.std.proofs.Common.{◌≡◌, ◌+◌, drop}
use Rattle.line_core.specs.Batches.{batch_place}
use Rattle.line_core.proofs.batches.place_of.Given as goal

abbrev pub invariant-loop-at : goal.invariant-loop-at
invariant-loop-at l = l.at + batch_place l.number (drop l.at l.batches) ≡ batch_place l.number l.batches
