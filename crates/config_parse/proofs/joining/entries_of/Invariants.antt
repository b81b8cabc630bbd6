use Rattle.std.proofs.Common.{◌≡◌, ◌++◌}
use Rattle.config_parse.proofs.joining.entries_of.Given as goal

abbrev pub invariant-loop-entry : goal.invariant-loop-entry
invariant-loop-entry l = l.entries ++ l.entry-iterator ≡ l.fn.table.entries
