use Rattle.std.proofs.Common.{◌≡◌, drop}
use Rattle.line_inputs.specs.Watching.{open_from, open_place}
use Rattle.line_inputs.proofs.watched.WatchedFiles.open_from.Given as goal

abbrev pub invariant-loop-place : goal.invariant-loop-place
invariant-loop-place l = open_place l.place (drop l.place l.self.files) ≡ open_from l.from l.self.files
