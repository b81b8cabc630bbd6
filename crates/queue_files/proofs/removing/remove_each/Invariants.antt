use Rattle.std.proofs.Common.{◌≡◌, ℕ, IsTrue, List, drop}
use Rattle.std.specs.Prelude.{Contains}
use Rattle.queue_files.specs.Others.{KeepsOthers}
use Rattle.queue_files.specs.Removing.{without, RemovalLeaves}
use Rattle.queue_files.proofs.removing.remove_each.Given as goal

abbrev pub invariant-loop-name : goal.invariant-loop-name
invariant-loop-name g l = record {
  stops : RemovalLeaves g.S.Store l.names l.fn.store l.store;
  gone : IsTrue g.S.Store.tells → (name : List ℕ) → without l.names (g.S.Store.seen l.fn.store) name ≡ without (drop l.name-index l.names) (g.S.Store.seen l.store) name;
  beside : KeepsOthers g.S.Store (Contains l.names) l.fn.store l.store;
  same : g.S.Store.faults l.store ≡ g.S.Store.faults l.fn.store;
}
