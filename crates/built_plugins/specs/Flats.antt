-- The plugins and the conditions of statements, each in the order of the text.
use Rattle.std.specs.Prelude.{[], ◌∷◌, ◌++◌, Option, Some, None}
use Rattle.config_tree.specs.declared.tree.Condition.{Condition}
use Rattle.event_flow.specs.Parts.{Part}
use Rattle.built_plugins.specs.declared.flat.Flat.{Flat}

-- those of a part of a section, behind others
abbrev pub with_part : Flat → Part → Flat
with_part flat p = record { plugins = flat.plugins ++ p.plugins; conditions = flat.conditions ++ p.conditions }

abbrev pub with_condition : Flat → Option Condition → Flat
with_condition flat None = flat
with_condition flat (Some c) = record { plugins = flat.plugins; conditions = flat.conditions ++ c ∷ [] }

abbrev pub flat_of : Part → Flat
flat_of p = record { plugins = p.plugins; conditions = p.conditions }
