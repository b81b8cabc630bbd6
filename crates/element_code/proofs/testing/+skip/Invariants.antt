use Rattle.std.proofs.Common.{◌≡◌, ◌-◌, ◌*◌, ◌+◌, option_map}
use Rattle.crc_frame.specs.Fronts.{repeated}
use Rattle.element_code.specs.Behind.{behind}
use Rattle.element_code.specs.Reading.{value_at, members_at, list_at, object_at}
use Rattle.element_code.proofs.testing.+skip.Given as goal

abbrev pub decreases-behind_value : goal.decreases-behind_value
decreases-behind_value l = 2 * l.levels

abbrev pub decreases-behind_list : goal.decreases-behind_list
decreases-behind_list l = 2 * l.levels + 1

abbrev pub decreases-behind_object : goal.decreases-behind_object
decreases-behind_object l = 2 * l.levels + 1

abbrev pub invariant-behind_list-loop : goal.invariant-behind_list-loop
invariant-behind_list-loop l = behind (repeated (value_at l.levels) (l.count - l.counter) l.rest) ≡ behind (list_at (value_at l.levels) l.bytes)

abbrev pub invariant-behind_object-loop : goal.invariant-behind_object-loop
invariant-behind_object-loop l = behind (members_at (value_at l.levels) (option_map (λ s. s.now) l.last) (l.count - l.counter) l.rest) ≡ behind (object_at (value_at l.levels) l.bytes)
