use Rattle.std.proofs.Common.{◌≡◌, ◌++◌, length}
use Rattle.std.specs.Vec.Iter.{into_iter_len}
use Rattle.dead_letter_reader.specs.Places.{rows_behind}
use Rattle.dead_letter_reader.proofs.place.rows_behind.Given as goal

abbrev pub invariant-loop-row : goal.invariant-loop-row
invariant-loop-row l = record {
  so_far : l.left ++ rows_behind l.place l.row-iterator.rest.items ≡ rows_behind l.place l.fn.rows;
  counted : into_iter_len l.row-iterator ≡ length l.row-iterator.rest.items;
}
