use Rattle.std.proofs.Common.{◌≡◌, flat_map, length}
use Rattle.batch_shop.specs.Desks.{job_out}
use Rattle.batch_shop.proofs.thread_shop.ThreadShop.look.Given as goal

abbrev pub invariant-loop : goal.invariant-loop
invariant-loop g l = (flat_map job_out l.self.desks.items ≡ flat_map job_out l.fn.self.desks.items) × (length l.self.desks.items ≡ length l.fn.self.desks.items)
