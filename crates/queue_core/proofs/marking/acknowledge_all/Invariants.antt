use Rattle.std.proofs.Common.{◌≡◌, length, map}
use Rattle.queue_core.specs.Calls.{with_acknowledged}
use Rattle.queue_core.proofs.EachPlace.{map_from}
use Rattle.queue_core.proofs.marking.acknowledge_all.Given as goal

abbrev pub invariant-loop-place : goal.invariant-loop-place
invariant-loop-place l = record {
  changed : map_from (with_acknowledged l.numbers) l.place l.tails.items ≡ map (with_acknowledged l.numbers) l.fn.tails.items;
  long : length l.tails.items ≡ length l.fn.tails.items;
}
