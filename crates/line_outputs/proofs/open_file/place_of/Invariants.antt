use Rattle.std.proofs.Common.{◌≡◌, ◌+◌, drop}
use Rattle.line_outputs.specs.OpenFiles.{file_place}
use Rattle.line_outputs.proofs.open_file.place_of.Given as goal

abbrev pub invariant-loop-at : goal.invariant-loop-at
invariant-loop-at l = l.at + file_place l.path (drop l.at l.files) ≡ file_place l.path l.files
