use Rattle.std.proofs.Common.{◌≡◌, ◌<◌, ◌^◌, ◌+◌, ◌++◌, length}
use Rattle.std.specs.Vec.Iter.{into_iter_len}
use Rattle.dead_letters.specs.Letters.{AreLetters, segment_bytes}
use Rattle.dead_letters.specs.Rows.{placed}
use Rattle.dead_letters.proofs.rows.placed.Given as goal

abbrev pub invariant-loop-letter : goal.invariant-loop-letter
invariant-loop-letter l = record {
  so_far : l.rows ++ placed l.number l.length l.letter-iterator.rest.items ≡ placed l.number 0 l.fn.letters;
  are : AreLetters l.letter-iterator.rest.items;
  room : l.length + length (segment_bytes l.letter-iterator.rest.items) < 2 ^ 63;
  counted : into_iter_len l.letter-iterator ≡ length l.letter-iterator.rest.items;
}
