use Rattle.batch_shop.proofs.Stances.{idle_by}
use Rattle.batch_shop.proofs.worker_slot.WorkerSlot.give.Goals as goal

pub give-requires : goal.give-requires
give-requires g c = idle_by _ _ c.args.self.now.stands c.requires
