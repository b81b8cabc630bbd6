use Rattle.std.proofs.Common.{◌≡◌, drop}
use Rattle.config_tree.specs.Readers.{value_at}
use Rattle.config_tree.proofs.tree.Settings.get.Given as goal

abbrev pub invariant-loop-entry : goal.invariant-loop-entry
invariant-loop-entry l = value_at l.name (drop l.entry-index l.self.list) ≡ value_at l.name l.self.list
