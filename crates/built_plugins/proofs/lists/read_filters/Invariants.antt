use Rattle.std.proofs.Common.{◌≡◌, drop}
use Rattle.built_plugins.proofs.Making.{behind}
use Rattle.built_plugins.specs.Each.{each_made}
use Rattle.built_plugins.specs.Makes.{filter_of}
use Rattle.built_plugins.proofs.lists.read_filters.Given as goal

abbrev pub invariant-loop-plugin : goal.invariant-loop-plugin
invariant-loop-plugin l = behind l.filters (each_made filter_of (drop l.plugin-index l.plugins)) ≡ each_made filter_of l.plugins
