use Rattle.std.proofs.Common.{◌≡◌}
use Rattle.batch_shop.specs.Desks.{job_out}
use Rattle.batch_shop.proofs.worker_slot.WorkerSlot.wait.Given as goal

abbrev pub invariant-loop : goal.invariant-loop
invariant-loop g l =
    (goal.iterator-loop g).can_next l.iterator' × (goal.iterator-loop g).is_finite l.iterator' × (job_out l.self ≡ job_out l.fn.self)
