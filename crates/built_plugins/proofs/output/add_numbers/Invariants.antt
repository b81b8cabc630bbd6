use Rattle.std.proofs.Common.{◌≡◌, ◌++◌, drop}
use Rattle.built_plugins.proofs.output.add_numbers.Given as goal

abbrev pub invariant-loop-number : goal.invariant-loop-number
invariant-loop-number l = l.to ++ drop l.number-index l.numbers ≡ l.fn.to ++ l.numbers
