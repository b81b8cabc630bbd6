use Rattle.std.proofs.Common.{◌≡◌, ◌≤◌, ◌+◌, ℕ, IsTrue, List, length, drop}
use Rattle.std.specs.List.{sum}
use Rattle.io_traits.specs.Moments.{EachMoment}
use Rattle.slot_files.specs.Each.{AltersEach, KeepsBytes, Grows, laid}
use Rattle.slot_files.proofs.each.append_parts.Given as goal

abbrev pub invariant-loop-place : goal.invariant-loop-place
invariant-loop-place g l = record {
  stops : EachMoment g.S.Store l.fn.store l.store (AltersEach g.S.Store l.names (KeepsBytes (g.S.Store.seen l.fn.store)) l.fn.store);
  grows : Grows g.S.Store l.names l.fn.store l.store;
  laid : IsTrue g.S.Store.tells → (name : List ℕ) → laid l.names l.sizes l.bytes (g.S.Store.seen l.fn.store) name ≡ laid (drop l.place l.names) (drop l.place l.sizes) (drop l.at l.bytes) (g.S.Store.seen l.store) name;
  left : l.at + sum (drop l.place l.sizes) ≤ length l.bytes;
  same : g.S.Store.faults l.store ≡ g.S.Store.faults l.fn.store;
}
