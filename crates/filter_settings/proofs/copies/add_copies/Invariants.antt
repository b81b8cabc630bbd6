use Rattle.std.proofs.Common.{◌≡◌, ◌++◌, take}
use Rattle.filter_settings.proofs.copies.add_copies.Given as goal

abbrev pub invariant-loop-value : goal.invariant-loop-value
invariant-loop-value l = l.to ≡ l.fn.to ++ take l.value-index l.values
