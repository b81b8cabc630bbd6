use Rattle.std.proofs.Common.{◌≤◌, ◌+◌, flat_map, length, vec_capacity}
use Rattle.batch_shop.specs.Desks.{job_out}
use Rattle.batch_shop.proofs.Adding.{Homes}
use Rattle.batch_shop.proofs.thread_shop.ThreadShop.close.Given as goal

abbrev pub invariant-loop-desk : goal.invariant-loop-desk
invariant-loop-desk g l = (length l.desks.items + length l.dones.items ≤ vec_capacity l.dones)
    × Homes g.T.Task.gives (flat_map job_out l.fn.self.desks.items) l.desks.items l.dones.items

abbrev pub decreases-loop-desk : goal.decreases-loop-desk
decreases-loop-desk g l = goal.left-loop-desk g l
