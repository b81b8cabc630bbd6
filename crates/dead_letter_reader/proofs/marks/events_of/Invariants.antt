use Rattle.std.proofs.Common.{◌≡◌, ◌++◌, drop}
use Rattle.dead_letter_reader.specs.Marks.{events_of}
use Rattle.dead_letter_reader.proofs.marks.events_of.Given as goal

abbrev pub invariant-loop-row : goal.invariant-loop-row
invariant-loop-row l = l.events ++ events_of (drop l.row-index l.rows) ≡ events_of l.rows
