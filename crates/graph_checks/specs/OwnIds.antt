-- The ids of outputs.
use Rattle.std.specs.Prelude.{◌≡◌, ℕ, ◌+◌, List, [], ◌∷◌, false}
use Rattle.config_tree.specs.declared.tree.Config.{Config}
use Rattle.config_tree.specs.declared.tree.Plugin.{Plugin}
use Rattle.event_flow.specs.Parts.{parts_of}
use Rattle.built_plugins.specs.Numbering.{output_id}
use Rattle.graph_checks.specs.Plugins.{stands}

-- the ids of outputs that a text counts from k on
abbrev pub ids_from : ℕ → List Plugin → List (List ℕ)
ids_from k [] = []
ids_from k (p ∷ ps) = output_id k p ∷ ids_from (k + 1) ps

-- none of these texts stands twice
abbrev pub AreApart : List (List ℕ) → Type 0
AreApart [] = Unit {0}
AreApart (s ∷ ss) = (stands s ss ≡ false) × AreApart ss

-- each output of a configuration has an id of its own
abbrev pub HaveOwnIds : Config → Type 0
HaveOwnIds config = AreApart (ids_from 1 (parts_of config.outputs).plugins)
