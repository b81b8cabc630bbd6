use Rattle.std.proofs.Common.{◌≡◌, ◌-◌, ℕ, List}
use Rattle.queue_core.specs.Batching.{rows_read}
use Rattle.queue_core.specs.Taking.{KeptIn}
use Rattle.queue_core.proofs.page_rows.BatchReader.add_kept.Given as goal

abbrev pub invariant-loop-self : goal.invariant-loop-self
invariant-loop-self l = record {
  so_far : (file : List ℕ) → KeptIn l.held file l.fn.kept
      → rows_read l.held.file l.held.page l.held.from file (l.end - l.fn.self.number) l.fn.self ≡ rows_read l.held.file l.held.page l.held.from file (l.end - l.self.number) l.self;
  left : (file : List ℕ) → KeptIn l.held file l.fn.kept → KeptIn l.held file l.kept;
}

abbrev pub decreases-loop-self : goal.decreases-loop-self
decreases-loop-self l = l.end - l.self.number
