use Rattle.std.proofs.Common.{◌≡◌, ◌++◌, take}
use Rattle.line_inputs.proofs.opening.append_paths.Given as goal

abbrev pub invariant-loop-place : goal.invariant-loop-place
invariant-loop-place l = l.to ≡ l.fn.to ++ take l.place l.paths
