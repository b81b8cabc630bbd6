use Rattle.std.proofs.Common.{◌≡◌, [], flat_map, take}
use Rattle.batch_shop.specs.Desks.{job_out}
use Rattle.batch_shop.proofs.thread_shop.ThreadShop.busy_desk.Given as goal

abbrev pub invariant-loop-at : goal.invariant-loop-at
invariant-loop-at g l = flat_map job_out (take l.at l.self.desks.items) ≡ []
