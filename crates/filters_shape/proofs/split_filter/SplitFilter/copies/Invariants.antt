use Rattle.std.proofs.Common.{◌≡◌, ◌++◌, map, length}
use Rattle.std.specs.Vec.Iter.{into_iter_len}
use Rattle.filters_shape.specs.Split.{event_of}
use Rattle.filters_shape.proofs.split_filter.SplitFilter.copies.Given as goal

abbrev pub invariant-loop-piece : goal.invariant-loop-piece
invariant-loop-piece l = record {
  rest : l.events ++ map (event_of l.self l.rest) l.piece-iterator.rest.items ≡ map (event_of l.self l.rest) l.fn.pieces;
  counted : into_iter_len l.piece-iterator ≡ length l.piece-iterator.rest.items;
}
