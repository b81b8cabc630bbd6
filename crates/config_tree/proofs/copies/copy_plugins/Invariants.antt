use Rattle.std.proofs.Common.{◌≡◌, take}
use Rattle.config_tree.proofs.copies.copy_plugins.Given as goal

abbrev pub invariant-loop-plugin : goal.invariant-loop-plugin
invariant-loop-plugin l = l.copies ≡ take l.plugin-index l.plugins
