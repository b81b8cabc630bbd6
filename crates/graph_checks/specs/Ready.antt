-- All of a plan but for its boxes.
use Rattle.std.specs.Prelude.{◌≡◌, ℕ, List, [], length, All}
use Rattle.config_tree.specs.declared.tree.Config.{Config}
use Rattle.event_flow.specs.Laying.{AreStepsOf}
use Rattle.foreign_parts.specs.Stocks.{Stock}
use Rattle.plugin_graph.specs.Graphs.{steps_in}
use Rattle.graph_checks.specs.Numbering.{draws_behind}
use Rattle.graph_checks.specs.Planned.{inputs_from, planned_outputs}
use Rattle.graph_checks.specs.Plans.{HasNoBox, IsKitOf}
use Rattle.graph_checks.specs.Wants.{so_often}
use Rattle.graph_checks.specs.declared.compiling.Ready.{Ready}
use Rattle.graph_checks.specs.declared.want.Wants.{Wants}

-- It is ready for so many workers, and has room for the boxes that are wanted, of which the outputs are drawn from these.
pub record IsReadyFor {F O : Type 0} (config : Config) (workers : ℕ) (outputs : List Stock) (wants : Wants) (ready : Ready F O) : Type 0 where
  pub graph : AreStepsOf config (steps_in ready.graph)
  pub draws : ready.draws ≡ draws_behind [] wants.outputs outputs
  pub inputs : ready.inputs ≡ inputs_from 1 config.inputs
  pub outgoing : ready.outgoing ≡ planned_outputs ready.draws config
  pub kits : All (IsKitOf ready.draws config) ready.kits.items
  pub no_boxes : All HasNoBox ready.kits.items
  pub workers_are : length ready.kits.items ≡ workers
  pub filters_wanted : ready.room.filters ≡ so_often workers wants.filters
  pub outputs_wanted : ready.room.outputs ≡ wants.outputs
  pub links_wanted : ready.room.links ≡ wants.links
