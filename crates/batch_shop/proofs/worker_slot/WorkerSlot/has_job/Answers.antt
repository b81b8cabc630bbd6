use Rattle.batch_shop.proofs.Stances.{idle_by, out_by, idle_has_none, out_has_one}
use Rattle.batch_shop.proofs.worker_slot.WorkerSlot.has_job.Goals as goal

pub returns-clause-none : goal.returns-clause-none
returns-clause-none g c h = idle_has_none _ (idle_by _ _ c.args.self.now.stands h)

pub returns-clause-one : goal.returns-clause-one
returns-clause-one g c h = out_has_one _ (out_by _ _ c.args.self.now.stands h)
