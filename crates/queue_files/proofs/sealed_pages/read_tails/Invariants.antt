use Rattle.std.proofs.Common.{◌≡◌, IsTrue, map, drop}
use Rattle.io_traits.specs.Calls.{ChangesNothing}
use Rattle.queue_files.specs.Folders.{names_in}
use Rattle.queue_files.specs.Marks.{read_in}
use Rattle.queue_files.specs.Collected.{in_front}
use Rattle.queue_files.specs.Opening.{AllBounded, held_tail, held_of}
use Rattle.queue_files.specs.Queues.{AreNewest}
use Rattle.queue_files.proofs.sealed_pages.read_tails.Given as goal

abbrev pub invariant-loop-number : goal.invariant-loop-number
invariant-loop-number g l = record {
  bounded : AllBounded l.tails.items;
  newest : IsTrue g.S.Store.tells → AreNewest (read_in (names_in l.fn.folder) (g.S.Store.seen l.fn.store)) l.tails.items;
  same : ChangesNothing g.S.Store.tells g.S.Store.seen g.S.Store.moment g.S.Store.may_leave l.fn.store l.store;
  faults : g.S.Store.faults l.store ≡ g.S.Store.faults l.fn.store;
  so_far : IsTrue g.S.Store.tells → held_of (read_in (names_in l.fn.folder) (g.S.Store.seen l.fn.store)) l.numbers
      ≡ in_front (map (held_tail (read_in (names_in l.fn.folder) (g.S.Store.seen l.fn.store))) l.tails.items) (held_of (read_in (names_in l.fn.folder) (g.S.Store.seen l.fn.store)) (drop l.number-index l.numbers));
}
