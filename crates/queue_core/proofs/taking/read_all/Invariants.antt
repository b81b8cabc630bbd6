use Rattle.std.proofs.Common.{◌≡◌, ◌++◌, ◌∷◌, [], ℕ, List, IsTrue, drop}
use Rattle.io_traits.specs.Calls.{ChangesNothing}
use Rattle.queue_core.specs.Taking.{stand, pages_read, AreThere, WasRead}
use Rattle.queue_core.proofs.taking.read_all.Given as goal

abbrev pub invariant-loop-place : goal.invariant-loop-place
invariant-loop-place g l = record {
  same : ChangesNothing g.S.Store.tells g.S.Store.seen g.S.Store.moment g.S.Store.may_leave l.fn.store l.store;
  faults : g.S.Store.faults l.store ≡ g.S.Store.faults l.fn.store;
  part : (names : ℕ → List ℕ) → IsTrue g.S.Store.tells → AreThere names (g.S.Store.seen l.fn.store) l.fn.page l.fn.block (l.tails ++ l.top ∷ [])
      → WasRead names (g.S.Store.seen l.fn.store) l.fn.page l.fn.block l.page l.block;
  so_far : (names : ℕ → List ℕ) → IsTrue g.S.Store.tells → AreThere names (g.S.Store.seen l.fn.store) l.fn.page l.fn.block (l.tails ++ l.top ∷ [])
      → pages_read (g.S.Store.seen l.fn.store) (l.tails ++ l.top ∷ []) (stand l.fn.page l.fn.reading) ≡ pages_read (g.S.Store.seen l.fn.store) (drop l.place l.tails ++ l.top ∷ []) (stand l.page l.reading);
}
