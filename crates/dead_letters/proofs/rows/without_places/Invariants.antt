use Rattle.std.proofs.Common.{◌≡◌, ◌++◌, length}
use Rattle.std.specs.Vec.Iter.{into_iter_len}
use Rattle.dead_letters.specs.Rows.{without_places}
use Rattle.dead_letters.proofs.rows.without_places.Given as goal

abbrev pub invariant-loop-row : goal.invariant-loop-row
invariant-loop-row l = record {
  so_far : l.letters ++ without_places l.row-iterator.rest.items ≡ without_places l.fn.rows;
  counted : into_iter_len l.row-iterator ≡ length l.row-iterator.rest.items;
}
