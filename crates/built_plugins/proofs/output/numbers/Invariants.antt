use Rattle.std.proofs.Common.{◌≡◌, ◌-◌, ◌++◌}
use Rattle.built_plugins.specs.Numbering as spec
use Rattle.built_plugins.proofs.output.numbers.Given as goal

abbrev pub invariant-loop : goal.invariant-loop
invariant-loop l = l.found ++ spec.numbers l.next (l.count - l.counter) ≡ spec.numbers l.from l.count
