use Rattle.std.proofs.Common.{◌≡◌, ◌+◌, IsTrue, drop}
use Rattle.io_traits.specs.Calls.{ChangesNothing}
use Rattle.dead_letters.specs.Found.{fronts_from}
use Rattle.dead_letters.specs.Rows.{in_front, rows_from}
use Rattle.dead_letters.proofs.entries.read_rows.Given as goal

abbrev pub invariant-loop-place : goal.invariant-loop-place
invariant-loop-place g l = record {
  same : ChangesNothing g.S.Store.tells g.S.Store.seen g.S.Store.moment g.S.Store.may_leave l.fn.store l.store;
  faults : g.S.Store.faults l.store ≡ g.S.Store.faults l.fn.store;
  so_far : IsTrue g.S.Store.tells → rows_from l.folder l.first (fronts_from l.folder (g.S.Store.seen l.fn.store) l.first l.sizes)
      ≡ in_front l.rows (rows_from l.folder (l.first + l.place) (fronts_from l.folder (g.S.Store.seen l.fn.store) (l.first + l.place) (drop l.place l.sizes)));
}
