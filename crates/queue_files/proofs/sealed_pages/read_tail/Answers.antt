use Rattle.std.proofs.Common.{◌∙◌, List, ℕ, subst}
use Rattle.io_traits.specs.Reads.{bytes_of}
use Rattle.queue_files.specs.Queues.{IsNewest}
use Rattle.queue_files.proofs.QueueReady.{newest_of}
use Rattle.queue_files.proofs.sealed_pages.read_tail.Goals as goal

pub returns-in-Ok-clause-newest : goal.returns-in-Ok-clause-newest
returns-in-Ok-clause-newest g c told =
    subst (λ (n : List ℕ). IsNewest (bytes_of (g.S.Store.seen c.args.store.now n)) c.in-Ok.turn c.in-Ok.state) (c.as_str.ensures ∙ c.in_ok-name.ensures)
    (newest_of (bytes_of (g.S.Store.seen c.args.store.now c.as_str.result.now)) c.in_ok-slots.slots c.in-Ok.turn c.in-Ok.state (c.in_ok-slots.ensures.slots told) c.in-Ok.ensures.newest c.in-Ok.ensures.fits)
