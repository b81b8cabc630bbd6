use Rattle.batch_shop.proofs.Stances.{idle_by}
use Rattle.batch_shop.proofs.worker_slot.WorkerSlot.close.Goals as goal

pub close-requires : goal.close-requires
close-requires g c = idle_by _ _ c.args.self.stands c.requires
