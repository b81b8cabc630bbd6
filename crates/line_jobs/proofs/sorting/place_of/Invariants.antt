use Rattle.std.proofs.Common.{◌≡◌, ◌+◌, drop}
use Rattle.line_jobs.specs.Deliveries.{place_of}
use Rattle.line_jobs.proofs.sorting.place_of.Given as goal

abbrev pub invariant-loop-at : goal.invariant-loop-at
invariant-loop-at l = l.at + place_of l.id (drop l.at l.outputs) ≡ place_of l.id l.outputs
