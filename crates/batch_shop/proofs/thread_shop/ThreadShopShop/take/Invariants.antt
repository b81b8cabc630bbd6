use Rattle.std.proofs.Common.{◌≡◌, ◌≤◌, ◌<◌, ◌⊎◌, [], flat_map, length, take}
use Rattle.batch_shop.specs.Desks.{job_out}
use Rattle.batch_shop.specs.Started.{all_looks}
use Rattle.batch_shop.proofs.thread_shop.ThreadShopShop.take.Given as goal

abbrev pub invariant-loop-at : goal.invariant-loop-at
invariant-loop-at g l = (flat_map job_out l.self.desks.items ≡ flat_map job_out l.initial.self.desks.items) × (length l.self.desks.items ≡ length l.initial.self.desks.items)
    × (all_looks l.initial.self.desks.items ≤ all_looks l.self.desks.items)
    × ((flat_map job_out (take l.at l.self.desks.items) ≡ []) ⊎ (all_looks l.initial.self.desks.items < all_looks l.self.desks.items))
