use Rattle.std.proofs.Common.{◌≡◌, ◌≤◌, ◌+◌, ◌++◌, length, map, vec_capacity}
use Rattle.std.specs.Vec.Iter.{into_iter_len}
use Rattle.queue_core.specs.Taking.{event_of, number_of}
use Rattle.queue_core.proofs.taking.split.Given as goal

abbrev pub invariant-loop-row : goal.invariant-loop-row
invariant-loop-row l = record {
  numbers : l.numbers.items ++ map number_of l.row-iterator.rest.items ≡ map number_of l.fn.rows;
  events : l.events.items ++ map event_of l.row-iterator.rest.items ≡ map event_of l.fn.rows;
  number_room : length l.numbers.items + length l.row-iterator.rest.items ≤ vec_capacity l.numbers;
  event_room : length l.events.items + length l.row-iterator.rest.items ≤ vec_capacity l.events;
  counted : into_iter_len l.row-iterator ≡ length l.row-iterator.rest.items;
}
