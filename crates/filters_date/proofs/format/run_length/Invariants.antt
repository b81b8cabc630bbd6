use Rattle.std.proofs.Common.{◌≡◌, ◌+◌, drop}
use Rattle.filters_date.specs.Formats.{run_length}
use Rattle.filters_date.proofs.format.run_length.Given as goal

abbrev pub invariant-loop-at : goal.invariant-loop-at
invariant-loop-at l = l.at + run_length l.letter (drop l.at l.text) ≡ run_length l.letter l.text
