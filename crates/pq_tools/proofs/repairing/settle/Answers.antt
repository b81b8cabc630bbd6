use Rattle.std.proofs.Common.{ap}
use Rattle.queue_core.specs.Views.{QueueView}
use Rattle.pq_tools.proofs.NewQueues.{settled}
use Rattle.pq_tools.proofs.repairing.settle.Goals as goal

pub returns-in-Ok-clause-rows : goal.returns-in-Ok-clause-rows
returns-in-Ok-clause-rows g c told rows h =
    settled g.S.Store c.args.queue.now c.mark.new.self rows c.args.store.now c.mark.new.store c.in-Ok.count told h c.in-Ok.ensures.records (ap (λ (v : QueueView). v.folder) c.in-Ok.ensures.marked) c.in-Ok.ensures.number
