use Rattle.std.proofs.Common.{◌≡◌, [], take, drop}
use Rattle.settings_lines.specs.Pipelines as spec
use Rattle.settings_lines.proofs.pipelines.first_twice.Given as goal

abbrev pub invariant-loop-at : goal.invariant-loop-at
invariant-loop-at l = spec.first_twice (take l.at l.pipelines) (drop l.at l.pipelines) ≡ spec.first_twice [] l.pipelines
