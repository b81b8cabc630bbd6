-- Where a filter puts a field: at the root, or under its target.
use Rattle.std.specs.Prelude.{ℕ, List, ◌++◌, Option, Some, None}
use Rattle.event_tree.specs.Events.{Way}
use Rattle.event_tree.specs.PathTexts.{way_of}
use Rattle.filter_settings.specs.Paths.{written}

-- the path of these parts, behind those of the target
abbrev pub under : Option Way → List (List ℕ) → Way
under None parts = way_of parts
under (Some target) parts = way_of (written target ++ parts)
