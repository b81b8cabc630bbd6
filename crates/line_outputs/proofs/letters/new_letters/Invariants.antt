use Rattle.std.proofs.Common.{◌≡◌, ◌++◌, drop, map}
use Rattle.line_outputs.specs.NewLetters.{new_letter}
use Rattle.line_outputs.proofs.letters.new_letters.Given as goal

abbrev pub invariant-loop-part : goal.invariant-loop-part
invariant-loop-part l = l.letters ++ map (new_letter l.moment) (drop l.part-index l.parts) ≡ map (new_letter l.moment) l.parts
