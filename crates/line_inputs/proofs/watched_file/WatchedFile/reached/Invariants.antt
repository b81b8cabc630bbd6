use Rattle.std.proofs.Common.{◌≡◌, None, drop}
use Rattle.line_inputs.specs.Rows.{last_place}
use Rattle.line_inputs.proofs.watched_file.WatchedFile.reached.Given as goal

abbrev pub invariant-loop-place : goal.invariant-loop-place
invariant-loop-place l = last_place l.fn.front l.found (drop l.place l.fn.self.rows) ≡ last_place l.fn.front None l.fn.self.rows
