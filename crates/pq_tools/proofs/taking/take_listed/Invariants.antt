use Rattle.std.proofs.Common.{◌≡◌, ◌++◌, drop, IsTrue, List}
use Rattle.io_traits.specs.Reads.{bytes_of}
use Rattle.slot_files.specs.Checkpoints.{newest_in}
use Rattle.queue_files.specs.Folders.{IsOwn, head, names_in}
use Rattle.queue_files.specs.Found.{Row}
use Rattle.queue_files.specs.Marks.{read_in}
use Rattle.queue_files.specs.Others.{KeepsOthers}
use Rattle.queue_core.specs.Opens.{IsReady}
use Rattle.pq_tools.specs.Repairs.{Adds, salvaged_of}
use Rattle.pq_tools.proofs.taking.take_listed.Given as goal

abbrev pub invariant-loop-number : goal.invariant-loop-number
invariant-loop-number g l = record {
  ready : IsReady g.S.Store l.queue l.store;
  folder : l.queue.folder ≡ l.fn.queue.folder;
  beside : KeepsOthers g.S.Store (IsOwn (names_in l.fn.queue.folder)) l.fn.store l.store;
  faults : g.S.Store.faults l.store ≡ g.S.Store.faults l.fn.store;
  done : List Row;
  adds : Adds g.S.Store done l.fn.queue l.queue l.fn.store l.store;
  so_far : IsTrue g.S.Store.tells → newest_in (bytes_of (g.S.Store.seen l.fn.store (names_in l.folder head))) ≡ l.newest
      → done ++ salvaged_of (read_in (names_in l.folder) (g.S.Store.seen l.fn.store)) l.end (drop l.number-index l.numbers)
      ≡ salvaged_of (read_in (names_in l.folder) (g.S.Store.seen l.fn.store)) 0 l.numbers;
}
