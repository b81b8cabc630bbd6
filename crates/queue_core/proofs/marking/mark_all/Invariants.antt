use Rattle.std.proofs.Common.{◌≡◌, length, map}
use Rattle.queue_core.specs.Calls.{with_marked}
use Rattle.queue_core.proofs.EachPlace.{map_from}
use Rattle.queue_core.proofs.marking.mark_all.Given as goal

abbrev pub invariant-loop-place : goal.invariant-loop-place
invariant-loop-place l = record {
  changed : map_from with_marked l.place l.tails.items ≡ map with_marked l.fn.tails.items;
  long : length l.tails.items ≡ length l.fn.tails.items;
}
