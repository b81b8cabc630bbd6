use Rattle.std.proofs.Common.{◌≡◌, flat_map, length}
use Rattle.batch_shop.specs.Desks.{job_out}
use Rattle.batch_shop.proofs.thread_shop.ThreadShop.take_next.Given as goal

abbrev pub invariant-loop : goal.invariant-loop
invariant-loop g l =
    (goal.iterator-loop g).can_next l.iterator' × (goal.iterator-loop g).is_finite l.iterator' × (flat_map job_out l.self.desks.items ≡ flat_map job_out l.fn.self.desks.items)
    × (length l.self.desks.items ≡ length l.fn.self.desks.items)
