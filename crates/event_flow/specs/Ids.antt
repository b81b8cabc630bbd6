-- The ids of plugins and of conditions.
use Rattle.std.specs.Prelude.{ℕ, List, ◌++◌, codes, Option, option_and_then, unwrap_or}
use Rattle.std.specs.Fmt.{decimal}
use Rattle.config_tree.specs.Joining.{Entries}
use Rattle.config_tree.specs.Readers.{value_at}
use Rattle.config_tree.specs.declared.tree.Plugin.{Plugin}
use Rattle.filter_settings.specs.Readers.{id_of}

-- the id that the settings give
abbrev pub given_id : Entries → Option (List ℕ)
given_id es = option_and_then id_of (value_at (codes "id") es)

-- the id of the k-th plugin of a section, counted from 1 in the order of the text: the one that its settings give, and else the section's name and k
abbrev pub plugin_id : List ℕ → ℕ → Plugin → List ℕ
plugin_id section k p = unwrap_or (given_id p.settings.list) (section ++ codes "_" ++ decimal k)

-- the id of the k-th condition of a section
abbrev pub condition_id : List ℕ → ℕ → List ℕ
condition_id section k = section ++ codes "_if_" ++ decimal k
