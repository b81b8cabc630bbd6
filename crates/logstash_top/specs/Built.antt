-- Which configurations the program runs: those whose inputs are stdin, generators, files and connections, and of whose outputs none sends to
-- a pipeline.
use Rattle.std.specs.Prelude.{Bool, ◌&&◌, ◌||◌, not, codes, bytes_eq, IsTrue}
use Rattle.std.specs.List.{list_all}
use Rattle.config_tree.specs.declared.tree.Config.{Config}
use Rattle.config_tree.specs.declared.tree.Plugin.{Plugin}
use Rattle.event_flow.specs.Parts.{parts_of}

abbrev pub is_built_input : Plugin → Bool
is_built_input p = bytes_eq p.name (codes "stdin") || bytes_eq p.name (codes "generator") || bytes_eq p.name (codes "file") || bytes_eq p.name (codes "tcp")

abbrev pub is_built_output : Plugin → Bool
is_built_output p = not (bytes_eq p.name (codes "pipeline"))

abbrev pub is_built : Config → Bool
is_built config = list_all is_built_input config.inputs && list_all is_built_output (parts_of config.outputs).plugins

abbrev pub IsBuilt : Config → Type 0
IsBuilt config = IsTrue (is_built config)
