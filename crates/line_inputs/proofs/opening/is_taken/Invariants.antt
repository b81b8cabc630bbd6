use Rattle.std.proofs.Common.{◌≡◌, drop}
use Rattle.std.specs.List.{list_any}
use Rattle.std.specs.Str.{bytes_eq}
use Rattle.line_inputs.proofs.opening.is_taken.Given as goal

abbrev pub invariant-loop-at : goal.invariant-loop-at
invariant-loop-at l = list_any (bytes_eq l.slot) (drop l.at l.slots) ≡ list_any (bytes_eq l.slot) l.slots
