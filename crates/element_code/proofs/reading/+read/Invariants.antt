use Rattle.std.proofs.Common.{◌≡◌, ◌-◌, ◌*◌, ◌+◌}
use Rattle.crc_frame.specs.Fronts.{repeated}
use Rattle.element_code.specs.Reading.{last_key, value_at, members_at, list_at, object_at}
use Rattle.crc_frame.proofs.Repeats.{with_front}
use Rattle.element_code.proofs.reading.+read.Given as goal

abbrev pub decreases-value_of : goal.decreases-value_of
decreases-value_of l = 2 * l.levels

abbrev pub decreases-items_of : goal.decreases-items_of
decreases-items_of l = 2 * l.levels + 1

abbrev pub decreases-fields_of : goal.decreases-fields_of
decreases-fields_of l = 2 * l.levels + 1

abbrev pub invariant-items_of-loop : goal.invariant-items_of-loop
invariant-items_of-loop l = with_front l.items (repeated (value_at l.levels) (l.count - l.counter) l.rest) ≡ list_at (value_at l.levels) l.bytes

abbrev pub invariant-fields_of-loop : goal.invariant-fields_of-loop
invariant-fields_of-loop l = with_front l.fields (members_at (value_at l.levels) (last_key l.fields) (l.count - l.counter) l.rest) ≡ object_at (value_at l.levels) l.bytes
