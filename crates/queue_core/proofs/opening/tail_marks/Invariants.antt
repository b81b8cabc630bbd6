use Rattle.std.proofs.Common.{◌≡◌, ◌++◌, map, drop}
use Rattle.queue_files.specs.Folders.{checkpoint, names_in}
use Rattle.queue_files.specs.declared.marking.Mark.{Mark}
use Rattle.queue_files.specs.declared.sealed_pages.SealedPage.{SealedPage}
use Rattle.queue_core.proofs.opening.tail_marks.Given as goal

abbrev pub invariant-loop-tail : goal.invariant-loop-tail
invariant-loop-tail l = record {
  so_far : map (λ (t : SealedPage). names_in l.folder (checkpoint t.number)) l.tails
      ≡ map (λ (m : Mark). m.file) l.marks.items ++ map (λ (t : SealedPage). names_in l.folder (checkpoint t.number)) (drop l.tail-index l.tails);
}
