use Rattle.std.proofs.Common.{sym, subst}
use Rattle.queue_core.specs.Calls.{IsHeldQueue}
use Rattle.queue_core.specs.Views.{QueueView}
use Rattle.queue_core.proofs.HeldQueues.{acknowledged_held}
use Rattle.queue_core.proofs.queue.Queue.acknowledge.Goals as goal

pub invariant_of-self : goal.invariant_of-self
invariant_of-self c =
    let q = c.self.inside in
    let v : QueueView = record { folder = q.folder; limits = q.limits; tails = q.tails.items; top = q.top; unread = q.unread; cursor = q.cursor } in
    subst (λ (x : QueueView). IsHeldQueue x q.marks.items q.bytes) (λ i. record v { tails = sym c.acknowledge_all.ensures i; top = sym c.acknowledge.ensures i }) (acknowledged_held c.args.numbers v q.marks.items q.bytes c.self.invariant)
