use Rattle.std.proofs.Common.{◌≡◌}
use Rattle.config_tree.specs.Joining as joining
use Rattle.config_parse.proofs.joining.with_entries.Given as goal

abbrev pub invariant-loop-key : goal.invariant-loop-key
invariant-loop-key l = joining.with_entries l.table.entries l.key-iterator ≡ joining.with_entries l.fn.table.entries l.fn.later.entries
