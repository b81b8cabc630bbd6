use Rattle.std.proofs.Common.{sym, subst}
use Rattle.queue_core.specs.Opens.{IsSlotted}
use Rattle.queue_core.specs.Views.{QueueView}
use Rattle.queue_core.proofs.Acknowledging.{still_slotted}
use Rattle.queue_tests.proofs.calls.acknowledge.Goals as goal

pub returns : goal.returns
returns c content slotted = subst (λ (v : QueueView). IsSlotted v content) (sym c.acknowledge.ensures) (still_slotted _ c.args.queue.now content slotted)
