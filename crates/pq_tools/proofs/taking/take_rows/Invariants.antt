use Rattle.std.proofs.Common.{◌≡◌, ◌≤◌, IsTrue, List}
use Rattle.io_traits.specs.Reads.{bytes_of}
use Rattle.queue_files.specs.Folders.{IsOwn, names_in}
use Rattle.queue_files.specs.Found.{Row}
use Rattle.queue_files.specs.Others.{KeepsOthers}
use Rattle.queue_core.specs.Opens.{IsReady}
use Rattle.pq_tools.specs.PageRuns.{IsRun}
use Rattle.pq_tools.specs.Repairs.{Adds}
use Rattle.pq_tools.proofs.Takings.{SoFar}
use Rattle.pq_tools.proofs.taking.take_rows.Given as goal

abbrev pub invariant-loop : goal.invariant-loop
invariant-loop g l = record {
  ready : IsReady g.S.Store l.queue l.store;
  folder : l.queue.folder ≡ l.fn.queue.folder;
  beside : KeepsOthers g.S.Store (IsOwn (names_in l.fn.queue.folder)) l.fn.store l.store;
  faults : g.S.Store.faults l.store ≡ g.S.Store.faults l.fn.store;
  few : l.count ≤ l.counter;
  done : List Row;
  adds : Adds g.S.Store done l.fn.queue l.queue l.fn.store l.store;
  so_far : IsTrue g.S.Store.tells → IsRun (bytes_of (g.S.Store.seen l.fn.store l.name)) l.fn.first
      → SoFar (bytes_of (g.S.Store.seen l.fn.store l.name)) l.gives l.from l.fn.first l.run l.count l.counter done;
}
