-- What a configuration that is checked reads as.
use Rattle.std.specs.Prelude.{◌≡◌, ℕ, List, Ok}
use Rattle.config_tree.specs.declared.tree.Condition.{Condition}
use Rattle.config_tree.specs.declared.tree.Config.{Config}
use Rattle.config_tree.specs.declared.tree.Plugin.{Plugin}
use Rattle.event_flow.specs.Parts.{parts_of}
use Rattle.foreign_parts.specs.declared.boxes.BoxKind.{BoxKind}
use Rattle.foreign_parts.specs.declared.boxes.BoxKind.TheVariants as kind
use Rattle.built_plugins.specs.Conditions.{compiled}
use Rattle.built_plugins.specs.Each.{each_made, named}
use Rattle.built_plugins.specs.Makes.{filter_of}
use Rattle.built_plugins.specs.declared.condition.NamedCondition.{NamedCondition}
use Rattle.built_plugins.specs.declared.filter.Filter.{Filter}
use Rattle.graph_checks.specs.Plugins.{section_name}

-- each filter reads; of outputs nothing is said here
abbrev pub AllRead : BoxKind → List Plugin → Type 0
AllRead kind.Filter ps = (xs : List Filter) × (each_made filter_of ps ≡ Ok xs)
AllRead kind.Output ps = Unit {0}

-- conditions, of which a section counts the first as the k-th, have patterns
abbrev pub AllCompiled : BoxKind → ℕ → List Condition → Type 0
AllCompiled which k cs = (xs : List NamedCondition) × (each_made compiled (named (section_name which) k cs) ≡ Ok xs)

-- each filter reads, and each condition has its patterns
pub record IsRead (config : Config) : Type 0 where
  pub filters : AllRead kind.Filter (parts_of config.filters).plugins
  pub filter_conditions : AllCompiled kind.Filter 1 (parts_of config.filters).conditions
  pub output_conditions : AllCompiled kind.Output 1 (parts_of config.outputs).conditions
