use Rattle.std.proofs.Common.{◌≡◌, ◌++◌, IsTrue, List, drop}
use Rattle.io_traits.specs.Moments.{EachMoment}
use Rattle.queue_files.specs.Others.{IsMarked, KeepsOthers}
use Rattle.queue_files.specs.Writes.{Write, writes_of, CanWrite, MayLeave, Wrote}
use Rattle.queue_files.proofs.marking.write_marks.Given as goal

abbrev pub invariant-loop-mark : goal.invariant-loop-mark
invariant-loop-mark g l = record {
  done : List Write;
  whole : writes_of l.marks ≡ done ++ writes_of (drop l.mark-index l.marks);
  images : EachMoment g.S.Store l.fn.store l.store (MayLeave g.S.Store l.fn.store done);
  wrote : IsTrue g.S.Store.tells → Wrote done (g.S.Store.seen l.fn.store) (g.S.Store.seen l.store);
  can : IsTrue g.S.Store.tells → CanWrite (g.S.Store.seen l.store) (writes_of (drop l.mark-index l.marks));
  beside : KeepsOthers g.S.Store (IsMarked l.marks) l.fn.store l.store;
  same : g.S.Store.faults l.store ≡ g.S.Store.faults l.fn.store;
}
