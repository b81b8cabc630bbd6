-- What a kit does to events, and says of them, by the numbers of its plugins and conditions.
use Rattle.std.specs.Prelude.{◌≡◌, ℕ, ◌+◌, ◌-◌, List, [], map, length, Option, Some, None, slice_get}
use Rattle.event_tree.specs.Events.{Ev}
use Rattle.event_tree.specs.Paths.{over}
use Rattle.condition_eval.specs.Truths.{truth}
use Rattle.condition_eval.specs.declared.truth.Truth.{Truth}
use Rattle.condition_eval.specs.declared.truth.Truth.TheVariants as said
use Rattle.foreign_parts.specs.declared.filter.Verdict.{Verdict}
use Rattle.foreign_parts.specs.declared.place.Place.{Place}
use Rattle.foreign_parts.specs.declared.place.Place.TheVariants as place
use Rattle.event_flow.specs.Steps.{Act, Table}
use Rattle.event_flow.specs.Steps as act
use Rattle.plugin_graph.specs.Loads.{Contents}
use Rattle.plugin_graph.specs.Meetings.{MayAnswer, filter_act}
use Rattle.built_plugins.specs.declared.condition.NamedCondition.{NamedCondition}
use Rattle.built_plugins.specs.declared.filter.Filter.{Filter}
use Rattle.plugin_graph.specs.declared.kit_filter.KitFilter.{KitFilter}
use Rattle.built_plugins.specs.declared.output.OutputTargets.{OutputTargets}
use Rattle.built_plugins.specs.declared.output.Target.{Target}

-- the place of a target, behind the id of its output
abbrev pub target_at : List Target → ℕ → List ℕ × Place
target_at ts n = over (λ t. (t.output, t.place)) ([], place.Discard) (slice_get ts n)

-- what an output does
abbrev pub output_act : List Target → OutputTargets → Act
output_act ts o = act.Sends o.id (map (λ n. (target_at ts n).1) o.targets)

-- what the output of a number does
abbrev pub output_acts : List Target → List OutputTargets → ℕ → Act
output_acts ts os n = over (output_act ts) (act.Gives []) (slice_get os n)

-- the plugin of a number: the filters, and behind them the outputs; past both no event is left
abbrev pub acts_at : Contents → ℕ → Ev → Act
acts_at c n e = over (λ f. filter_act (n + 1) f e) (output_acts c.targets c.outputs (n - length c.filters)) (slice_get c.filters n)

abbrev pub says_at : List NamedCondition → ℕ → Ev → Truth
says_at cs n e = over (λ c. truth c.condition e) said.No (slice_get cs n)

abbrev pub id_at : List NamedCondition → ℕ → List ℕ
id_at cs n = over (λ c. c.id) [] (slice_get cs n)

abbrev pub table_of : Contents → Table
table_of c = record { acts = acts_at c; says = says_at c.conditions; ids = id_at c.conditions; targets = target_at c.targets }

-- what the filter of a number does, among filters with their boxes
abbrev pub filter_acts : {X : Type 0} → List (KitFilter X) → ℕ → Ev → Act
filter_acts fs n e = over (λ f. filter_act (n + 1) f.filter e) (act.Gives []) (slice_get fs n)

-- each target of an output has its id
abbrev pub HasOwnTargets : List Target → OutputTargets → Type 0
HasOwnTargets ts o = map (λ n. (target_at ts n).0) o.targets ≡ map (λ n. o.id) o.targets

abbrev pub HaveOwnTargets : List Target → List OutputTargets → Type 0
HaveOwnTargets ts os = map (λ o. map (λ n. (target_at ts n).0) o.targets) os ≡ map (λ o. map (λ n. o.id) o.targets) os

-- the boxes of filters, where these are boxed ones and their boxes were put in
abbrev pub boxes_of : {X : Type 0} → List (KitFilter X) → List (Option X)
boxes_of fs = map (λ f. f.plugged) fs

-- a filter has no box at first
abbrev pub no_boxes : {X : Type 0} → List Filter → List (Option X)
no_boxes fs = map (λ f. None) fs

-- whether the box of the k-th filter, counted from 1, may answer so
abbrev pub MayAt : {X : Type 0} → (X → Ev → Verdict → Type 0) → List (Option X) → ℕ → Ev → Verdict → Type 0
MayAt {X} may boxes k e u = (n : ℕ) × (k ≡ n + 1) × ((x : Option X) × (slice_get boxes n ≡ Some x) × MayAnswer may x e u)
