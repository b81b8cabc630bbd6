use Rattle.std.proofs.Common.{◌≡◌, ◌≤◌, ◌-◌, length}
use Rattle.io_traits.specs.Calls.{ChangesNothing}
use Rattle.queue_page.specs.Blocks.{IsPart, OnFile}
use Rattle.queue_core.specs.Batching.{rows_read}
use Rattle.queue_core.proofs.page_rows.BatchReader.read_page.Given as goal

abbrev pub invariant-loop-self : goal.invariant-loop-self
invariant-loop-self g l = record {
  same : ChangesNothing g.S.Store.tells g.S.Store.seen g.S.Store.moment g.S.Store.may_leave l.fn.store l.store;
  faults : g.S.Store.faults l.store ≡ g.S.Store.faults l.fn.store;
  part : OnFile g.S.Store l.fn.store l.fn.name l.fn.block (λ file. IsPart file l.block);
  so_far : OnFile g.S.Store l.fn.store l.fn.name l.fn.block (λ file. l.fn.page.state.length ≤ length file
      → rows_read l.fn.name l.fn.page l.fn.from file (l.end - l.fn.self.number) l.fn.self ≡ rows_read l.fn.name l.fn.page l.fn.from file (l.end - l.self.number) l.self);
}

abbrev pub decreases-loop-self : goal.decreases-loop-self
decreases-loop-self g l = l.end - l.self.number
