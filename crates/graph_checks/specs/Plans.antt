-- What a configuration is compiled to.
use Rattle.std.specs.Prelude.{◌≡◌, ℕ, zero, suc, List, [], ◌∷◌, ◌++◌, length, map, nat_lt, if◌then◌else◌, All, Option, Some, None, slice_get, Ok}
use Rattle.config_tree.specs.declared.tree.Config.{Config}
use Rattle.event_flow.specs.Laying.{AreStepsOf, IsTableOf}
use Rattle.event_flow.specs.Parts.{parts_of}
use Rattle.event_flow.specs.Places.{Draws}
use Rattle.foreign_parts.specs.declared.boxes.BoxKind.TheVariants as kind
use Rattle.plugin_graph.specs.Counts.{patterns_in}
use Rattle.plugin_graph.specs.Graphs.{boxes_in, built_in, contents_of, steps_in}
use Rattle.plugin_graph.specs.Kits.{no_boxes, table_of}
use Rattle.plugin_graph.specs.Loads.{Contents, loaded}
use Rattle.built_plugins.specs.Makes.{makes}
use Rattle.built_plugins.specs.declared.filter.Filter.{Filter}
use Rattle.built_plugins.specs.declared.filter.Filter.TheVariants as f
use Rattle.plugin_graph.specs.declared.kit.Kit.{Kit}
use Rattle.graph_checks.specs.Planned.{inputs_from, planned_outputs}
use Rattle.graph_checks.specs.Wants.{so_often, wants_of}
use Rattle.graph_checks.specs.declared.plan.Plan.{Plan}

-- a kit is that of a configuration, with the numbers that were drawn for its boxed outputs
pub record IsKitOf {X : Type 0} (draws : Draws) (config : Config) (kit : Kit X) : Type 0 where
  pub loaded : loaded draws config ≡ Ok (contents_of kit)
  pub table : IsTableOf makes config draws (table_of (contents_of kit))
  pub built : built_in kit ≡ patterns_in (contents_of kit)

-- a kit has no box
abbrev pub HasNoBox : {X : Type 0} → Kit X → Type 0
HasNoBox kit = boxes_in kit ≡ no_boxes (contents_of kit).filters

-- where a boxed filter stands there is a box, and nowhere else
abbrev pub IsIts : {X : Type 0} → Option Filter → Option (Option X) → Type 0
IsIts None box = box ≡ None
IsIts (Some (f.Built x)) box = box ≡ Some None
IsIts {X} (Some (f.Boxed x)) box = (b : X) × (box ≡ Some (Some b))

-- each boxed filter of a kit has a box, and no other filter has one
abbrev pub HasItsBoxes : {X : Type 0} → Kit X → Type 0
HasItsBoxes kit = (k : ℕ) → IsIts (slice_get (contents_of kit).filters k) (slice_get (boxes_in kit) k)

-- the boxes of kits, of each by the number of its filter
abbrev pub rows : {X : Type 0} → List (Kit X) → List (List (Option X))
rows kits = map boxes_in kits

abbrev pub held : {X : Type 0} → Option (Option X) → List X
held None = []
held (Some None) = []
held (Some (Some x)) = x ∷ []

-- those of the filter of a number, of each kit
abbrev pub column : {X : Type 0} → ℕ → List (List (Option X)) → List X
column k [] = []
column k (row ∷ rs) = held (slice_get row k) ++ column k rs

-- those of so many filters, filter by filter
abbrev pub columns : {X : Type 0} → ℕ → List (List (Option X)) → List X
columns zero rs = []
columns (suc k) rs = columns k rs ++ column k rs

-- how many filters the kit has that has the most, and at least so many
abbrev pub most : ℕ → List Contents → ℕ
most n [] = n
most n (c ∷ cs) = most (if nat_lt n (length c.filters) then length c.filters else n) cs

abbrev pub width : List Contents → ℕ
width cs = most 0 cs

-- the boxes of kits: of the first filter that of each kit, then of the second, and so on
abbrev pub boxes_of_kits : {X : Type 0} → List (Kit X) → List X
boxes_of_kits kits = columns (width (map contents_of kits)) (rows kits)

-- A plan of a configuration for so many workers, where this is the number that the box of an output has of its own.
pub record IsPlanOf {F O : Type 0} (number : O → ℕ) (config : Config) (workers : ℕ) (plan : Plan F O) : Type 0 where
  pub config_is : plan.config ≡ config
  pub graph : AreStepsOf config (steps_in plan.graph)
  pub inputs : plan.inputs ≡ inputs_from 1 config.inputs
  pub outgoing : plan.outgoing ≡ planned_outputs plan.draws config
  pub workers_are : length plan.kits.items ≡ workers
  pub kits : All (IsKitOf plan.draws config) plan.kits.items
  pub boxes : All HasItsBoxes plan.kits.items
  pub filters : map (λ d. d.want) (boxes_of_kits plan.kits.items) ≡ so_often workers (wants_of kind.Filter (parts_of config.filters).plugins)
  pub outputs : map (λ d. d.want) plan.outputs.items ≡ wants_of kind.Output (parts_of config.outputs).plugins
  pub draws : plan.draws ≡ map (λ d. (d.want.id, number d.plugged)) plan.outputs.items
