-- What an event becomes that meets a filter, and was sent to targets before.
use Rattle.std.specs.Prelude.{◌≡◌, ℕ, List, ◌∷◌, ◌++◌, Option, Some, None}
use Rattle.event_tree.specs.Events.{Ev}
use Rattle.foreign_parts.specs.declared.filter.Verdict.{Verdict}
use Rattle.event_flow.specs.Flows.{Filtered, Gives, Asks}
use Rattle.event_flow.specs.Marks.{Mark, Acts, Used, at_once, dids, marks, sent_to}
use Rattle.event_flow.specs.Steps.{Act, Table}
use Rattle.event_flow.specs.Steps as act
use Rattle.event_flow.specs.declared.cell.Cell.{Cell}
use Rattle.built_plugins.specs.Makes.{filtered_by, optioned}
use Rattle.built_plugins.specs.declared.boxed.BoxedFilter.{BoxedFilter}
use Rattle.built_plugins.specs.declared.filter.Filter.{Filter}

abbrev pub act_by : ℕ → Filtered → Act
act_by k (Gives es) = act.Gives es
act_by k (Asks events) = act.Asks k events

-- what the k-th filter does to an event
abbrev pub filter_act : ℕ → Filter → Ev → Act
filter_act k f e = act_by k (filtered_by f e)

-- what an event, sent to these targets so far, becomes by what a plugin does
abbrev pub Meeting : (ℕ → Ev → Verdict → Type 0) → Act → Table → Ev → List ℕ → List Mark → Type 0
Meeting may act_of table e targets part = (acts : List Mark) × Acts may e act_of acts × (part ≡ dids (sent_to table targets e) ++ acts)

-- whether a box, where there is one, may answer so
abbrev pub MayAnswer : {X : Type 0} → (X → Ev → Verdict → Type 0) → Option X → Ev → Verdict → Type 0
MayAnswer may None e v = ⊥
MayAnswer may (Some p) e v = may p e v

-- a verdict that the box may answer was used, and its events go on
pub record Answered (may : Verdict → Type 0) (b : BoxedFilter) (e : Ev) (targets : List ℕ) (old new : List Cell) : Type 0 where
  pub verdict : Verdict
  pub may_be : may verdict
  pub seen : (table : Table) → marks table new ≡ marks table old ++ dids (sent_to table targets e) ++ Used verdict ∷ at_once (optioned b verdict)
