use Rattle.std.proofs.Common.{◌≡◌, ◌++◌, drop}
use Rattle.line_jobs.specs.Deliveries.{deliveries_to}
use Rattle.line_jobs.proofs.sorting.deliveries_to.Given as goal

abbrev pub invariant-loop-target : goal.invariant-loop-target
invariant-loop-target l = l.due ++ deliveries_to l.outgoing (drop l.target-index l.targets) l.left ≡ deliveries_to l.outgoing l.targets l.fn.sent
