use Rattle.std.proofs.Common.{rules}
use Rattle.batch_shop.proofs.Stances.{out_by}
use Rattle.batch_shop.proofs.worker_slot.WorkerSlot.take.Goals as goal

pub fetch-requires : goal.fetch-requires
fetch-requires g c = out_by _ _ c.args.self.now.stands (search rules)
