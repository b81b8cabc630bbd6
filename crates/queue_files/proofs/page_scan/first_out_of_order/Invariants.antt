use Rattle.std.proofs.Common.{◌≡◌, ◌++◌, ◌∷◌, [], map, drop}
use Rattle.queue_files.specs.Folders.{Folder}
use Rattle.queue_files.specs.Found.{falling, head_held}
use Rattle.queue_files.specs.Opening.{held_tail}
use Rattle.queue_files.proofs.page_scan.first_out_of_order.Given as goal

abbrev pub invariant-loop-tail : goal.invariant-loop-tail
invariant-loop-tail l = record {
  so_far : (folder : Folder) → falling 0 (map (held_tail folder) l.tails ++ head_held folder l.head ∷ []) ≡ falling l.end (map (held_tail folder) (drop l.tail-index l.tails) ++ head_held folder l.head ∷ []);
}
