-- What a kit is loaded with by a configuration, and what is refused of that.
use Rattle.std.specs.Prelude.{◌≡◌, List, ◌++◌, codes, Ok}
use Rattle.config_tree.specs.declared.tree.Config.{Config}
use Rattle.filter_settings.specs.Settings.{Made, with_made, next}
use Rattle.event_flow.specs.Parts.{parts_of}
use Rattle.event_flow.specs.Places.{Draws}
use Rattle.built_plugins.specs.Conditions.{compiled}
use Rattle.built_plugins.specs.Each.{each_made, named}
use Rattle.built_plugins.specs.Makes.{filter_of}
use Rattle.built_plugins.specs.Numbering.{outputs_of}
use Rattle.built_plugins.specs.declared.condition.NamedCondition.{NamedCondition}
use Rattle.built_plugins.specs.declared.filter.Filter.{Filter}
use Rattle.built_plugins.specs.declared.output.OutputTargets.{OutputTargets}
use Rattle.built_plugins.specs.declared.output.Outputs.{Outputs}
use Rattle.built_plugins.specs.declared.output.Target.{Target}

-- what a kit has, but for its boxes
pub record Contents : Type 0 where
  pub filters : List Filter
  pub outputs : List OutputTargets
  pub targets : List Target
  pub conditions : List NamedCondition

abbrev pub contents : Outputs → List Filter → List NamedCondition → Contents
contents os fs cs = record { filters = fs; outputs = os.outputs; targets = os.targets; conditions = cs }

-- the conditions of a configuration: those of its filters, and behind them those of its outputs
abbrev pub conditions_of : Config → List NamedCondition
conditions_of config = named (codes "filter") 1 (parts_of config.filters).conditions ++ named (codes "output") 1 (parts_of config.outputs).conditions

-- what a configuration loads a kit with: its filters, and then its conditions, up to the first that is refused
unfoldable pub loaded : Draws → Config → Made Contents
loaded draws config =
    next (λ fs. with_made (λ cs. contents (outputs_of draws (parts_of config.outputs).plugins) fs cs) (each_made compiled (conditions_of config)))
    (each_made filter_of (parts_of config.filters).plugins)

-- what stands in a kit that a configuration was loaded into
pub record IsLoaded (draws : Draws) (config : Config) (c : Contents) : Type 0 where
  pub filters : each_made filter_of (parts_of config.filters).plugins ≡ Ok c.filters
  pub conditions : each_made compiled (conditions_of config) ≡ Ok c.conditions
  pub outputs : c.outputs ≡ (outputs_of draws (parts_of config.outputs).plugins).outputs
  pub targets : c.targets ≡ (outputs_of draws (parts_of config.outputs).plugins).targets
