-- A configuration as it is written: which filters of a kit are read anew, and what they do.
use Rattle.std.specs.Prelude.{◌≡◌, ℕ, List, ◌++◌, Bool, true, false, nat_eq, Some, Ok, slice_get}
use Rattle.config_tree.specs.declared.tree.Config.{Config}
use Rattle.config_tree.specs.declared.tree.Plugin.{Plugin}
use Rattle.event_tree.specs.Events.{Ev}
use Rattle.event_flow.specs.Flows.{Gives}
use Rattle.event_flow.specs.Laying.{IsTableOf}
use Rattle.event_flow.specs.Marks.{Came, at_once, dids, sent_to}
use Rattle.event_flow.specs.Places.{Draws}
use Rattle.event_flow.specs.Steps.{Table}
use Rattle.event_flow.specs.Steps as act
use Rattle.event_flow.specs.declared.cell.Cell.{Cell}
use Rattle.built_plugins.specs.Counts.{built_patterns}
use Rattle.plugin_graph.specs.Kits.{table_of}
use Rattle.plugin_graph.specs.Loads.{Contents}
use Rattle.built_plugins.specs.Makes.{built_of, makes}
use Rattle.built_plugins.specs.declared.built.BuiltFilter.{BuiltFilter}
use Rattle.built_plugins.specs.declared.filter.Filter.{Filter}
use Rattle.built_plugins.specs.declared.filter.Filter.TheVariants as f

-- whether a filter is built in and has no pattern
abbrev pub is_plain : Filter → Bool
is_plain (f.Built x) = nat_eq (built_patterns x) 0
is_plain (f.Boxed x) = false

-- a kit has the plugins and the conditions of a configuration, whatever was drawn for its outputs
pub record IsKitOf (config : Config) (c : Contents) : Type 0 where
  pub draws : Draws
  pub table : IsTableOf makes config draws (table_of c)

-- where a number is marked, the events that its plugin makes of one are those that the table gives
abbrev pub ReadsAlike : List Plugin → List Bool → Table → Type 0
ReadsAlike ps plain table = (n : ℕ) (p : Plugin) (e : Ev) (es : List Ev) → slice_get plain n ≡ Some true → slice_get ps n ≡ Some p → makes p e ≡ Gives es → table.acts n e ≡ act.Gives es

-- the plugin of a number, and the built-in filter that it is
pub record IsRead (ps : List Plugin) (n : ℕ) (x : BuiltFilter) : Type 0 where
  pub plugin : Plugin
  pub at : slice_get ps n ≡ Some plugin
  pub is : built_of plugin.name plugin.settings.list ≡ Ok (Some x)

-- an event, sent to these targets so far, met the filter that the plugin of a number is, and either stays as this or not
pub record MetAnew (ps : List Plugin) (n : ℕ) (e : Ev) (targets : List ℕ) (stays : Bool) (e' : Ev) (targets' : List ℕ) (old new : List Cell) : Type 0 where
  pub plugin : Plugin
  pub events : List Ev
  pub at : slice_get ps n ≡ Some plugin
  pub made : makes plugin e ≡ Gives events
  pub seen : (table : Table) → Came table stays e' targets' old new (dids (sent_to table targets e) ++ at_once events)
