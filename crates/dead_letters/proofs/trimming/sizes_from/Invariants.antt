use Rattle.std.proofs.Common.{◌≡◌, ◌+◌, ◌-◌, ◌++◌, IsTrue, length, map}
use Rattle.io_traits.specs.Calls.{ChangesNothing}
use Rattle.dead_letters.specs.Ready.{files_from}
use Rattle.dead_letters.proofs.trimming.sizes_from.Given as goal

abbrev pub invariant-loop-place : goal.invariant-loop-place
invariant-loop-place g l = record {
  same : ChangesNothing g.S.Store.tells g.S.Store.seen g.S.Store.moment g.S.Store.may_leave l.fn.store l.store;
  faults : g.S.Store.faults l.store ≡ g.S.Store.faults l.fn.store;
  many : length l.sizes ≡ l.place;
  so_far : IsTrue g.S.Store.tells → l.sizes ++ map length (files_from l.folder (g.S.Store.seen l.fn.store) (l.first + l.place) (l.count - l.place)) ≡ map length (files_from l.folder (g.S.Store.seen l.fn.store) l.first l.count);
}
