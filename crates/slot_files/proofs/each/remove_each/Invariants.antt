use Rattle.std.proofs.Common.{◌≡◌, ℕ, IsTrue, List, drop}
use Rattle.std.specs.Prelude.{Contains}
use Rattle.io_traits.specs.Moments.{EachMoment, ReadsBeside}
use Rattle.slot_files.specs.Each.{AltersEach, GoneOrSame, without}
use Rattle.slot_files.proofs.each.remove_each.Given as goal

abbrev pub invariant-loop-name : goal.invariant-loop-name
invariant-loop-name g l = record {
  stops : EachMoment g.S.Store l.fn.store l.store (AltersEach g.S.Store l.names GoneOrSame l.fn.store);
  gone : IsTrue g.S.Store.tells → (name : List ℕ) → without l.names (g.S.Store.seen l.fn.store) name ≡ without (drop l.name-index l.names) (g.S.Store.seen l.store) name;
  beside : ReadsBeside g.S.Store (Contains l.names) l.fn.store l.store;
  same : g.S.Store.faults l.store ≡ g.S.Store.faults l.fn.store;
}
