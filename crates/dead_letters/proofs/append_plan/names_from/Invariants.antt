use Rattle.std.proofs.Common.{◌≡◌, ◌+◌, ◌-◌, ◌++◌}
use Rattle.dead_letters.specs.Views.{names_from}
use Rattle.dead_letters.proofs.append_plan.names_from.Given as goal

abbrev pub invariant-loop-place : goal.invariant-loop-place
invariant-loop-place l = l.names.items ++ names_from l.folder (l.first + l.place) (l.count - l.place) ≡ names_from l.folder l.first l.count
