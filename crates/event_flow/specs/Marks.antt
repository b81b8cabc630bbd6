-- What a batch did that goes through steps, in order: its cells as marks.
use Rattle.std.specs.Prelude.{◌≡◌, ℕ, zero, suc, List, [], ◌∷◌, ◌++◌, map, flat_map, Bool, true, false}
use Rattle.event_tree.specs.Events.{Ev}
use Rattle.condition_eval.specs.declared.truth.Truth.{Truth}
use Rattle.condition_eval.specs.declared.truth.Truth.TheVariants as truth
use Rattle.foreign_parts.specs.declared.filter.Verdict.{Verdict}
use Rattle.event_flow.specs.Flows.{Derived, To, Dead, Asked, Flow, wrong_letter}
use Rattle.event_flow.specs.Steps.{Act, Gives, Asks, Sends, Table}
use Rattle.event_flow.specs.declared.cell.Cell.{Cell}
use Rattle.event_flow.specs.declared.cell.Cell.TheVariants as c
use Rattle.event_flow.specs.declared.cell.Outcome.{Outcome}
use Rattle.event_flow.specs.declared.cell.Outcome.TheVariants as o
use Rattle.event_flow.specs.declared.step.FlowStep.{FlowStep}
use Rattle.event_flow.specs.declared.step.FlowStep.TheVariants as step

-- an event that passes over so many steps; something that was derived; a verdict that was used
pub data Mark : Type 0 where
  At : ℕ → Ev → Mark
  Did : Derived → Mark
  Used : Verdict → Mark

-- what was derived, and the verdicts that were used
abbrev pub derived_in : List Mark → List Derived
derived_in [] = []
derived_in (At skip e ∷ ms) = derived_in ms
derived_in (Did d ∷ ms) = d ∷ derived_in ms
derived_in (Used v ∷ ms) = derived_in ms

abbrev pub verdicts_in : List Mark → List Verdict
verdicts_in [] = []
verdicts_in (At skip e ∷ ms) = verdicts_in ms
verdicts_in (Did d ∷ ms) = verdicts_in ms
verdicts_in (Used v ∷ ms) = v ∷ verdicts_in ms

-- events that the next step meets
abbrev pub at_once : List Ev → List Mark
at_once es = map (λ e. At 0 e) es

abbrev pub dids : List Derived → List Mark
dids ds = map (λ d. Did d) ds

module _ (table : Table) where
  -- an event at the places to which it was sent
  abbrev pub sent_to : List ℕ → Ev → List Derived
  sent_to targets e = map (λ n. To (table.targets n).0 (table.targets n).1 e) targets

  -- an outcome and a cell as marks
  abbrev pub outcome_marks : Outcome → List Mark
  outcome_marks (o.Consumed e targets) = dids (sent_to targets e)
  outcome_marks (o.Dead n reason e targets) = dids (sent_to targets e) ++ Did (Dead (wrong_letter (table.ids n) reason e)) ∷ []
  outcome_marks (o.Verdict v) = Used v ∷ []

  abbrev pub marks_of : Cell → List Mark
  marks_of (c.At skip e targets) = dids (sent_to targets e) ++ At skip e ∷ []
  marks_of (c.Came outcome) = outcome_marks outcome

  abbrev pub marks : List Cell → List Mark
  marks cells = flat_map marks_of cells

-- where a condition leads an event, which passes over so many steps where it is No
abbrev pub led_mark : ℕ → List ℕ → Ev → Truth → Mark
led_mark over id e truth.Yes = At 0 e
led_mark over id e truth.No = At over e
led_mark over id e (truth.Wrong reason) = Did (Dead (wrong_letter id reason e))

-- the same of the cell that has it
abbrev pub led_cell : Truth → ℕ → ℕ → Ev → List ℕ → Cell
led_cell truth.Yes n over e targets = c.At 0 e targets
led_cell truth.No n over e targets = c.At over e targets
led_cell (truth.Wrong reason) n over e targets = c.Came (o.Dead n reason e targets)

module _ (may : ℕ → Ev → Verdict → Type 0) where
  -- what a plugin puts in the place of an event
  abbrev pub Acts : Ev → Act → List Mark → Type 0
  Acts e (Gives es) part = part ≡ at_once es
  Acts e (Asks k events) part = (v : Verdict) × may k e v × (part ≡ Used v ∷ at_once (events v))
  Acts e (Sends id places) part = part ≡ dids (map (λ at. To id at e) places) ++ At 0 e ∷ []

  -- what an event becomes that meets a plugin, where it was sent to these targets so far
  abbrev pub Meets : Table → ℕ → Ev → List ℕ → List Mark → Type 0
  Meets table n e targets part = (acts : List Mark) × Acts e (table.acts n e) acts × (part ≡ dids (sent_to table targets e) ++ acts)

  -- what one step puts in the place of a mark
  abbrev pub Becomes : Table → FlowStep → Mark → List Mark → Type 0
  Becomes table s (Did d) part = part ≡ Did d ∷ []
  Becomes table s (Used v) part = part ≡ Used v ∷ []
  Becomes table s (At (suc skip) e) part = part ≡ At skip e ∷ []
  Becomes table (step.Plugin n) (At zero e) part = Acts e (table.acts n e) part
  Becomes table (step.Test n over) (At zero e) part = part ≡ led_mark over (table.ids n) e (table.says n e) ∷ []
  Becomes table (step.Skip over) (At zero e) part = part ≡ At over e ∷ []

  -- what one step puts in the place of marks, each in order
  abbrev pub StepsAll : Table → FlowStep → List Mark → List Mark → Type 0
  StepsAll table s [] out = out ≡ []
  StepsAll table s (x ∷ ms) out = (part more : List Mark) × (out ≡ part ++ more) × Becomes table s x part × StepsAll table s ms more

  -- each verdict may be the answer of that filter to that event
  abbrev pub AllMay : List Asked → Type 0
  AllMay [] = Unit {0}
  AllMay (q ∷ qs) = may q.filter q.event q.verdict × AllMay qs

  -- with these verdicts a flow derives this, and leaves these
  pub record Does (f : Flow) (vs : List Verdict) (ds : List Derived) (left : List Verdict) : Type 0 where
    pub derived : (f vs).derived ≡ ds
    pub asked : AllMay (f vs).asked
    pub left_over : (f vs).left ≡ left
    pub enough : (f vs).enough ≡ true

  -- with the verdicts of the marks, whatever stands behind them, a flow derives what the marks say, and uses just these
  pub record Derives (f : Flow) (ms : List Mark) : Type 0 where
    pub does : (rest : List Verdict) → Does f (verdicts_in ms ++ rest) (derived_in ms) rest

-- where an event met a plugin, the event stands in its place, if it stays, and nothing else came; else all that came is behind the other cells
abbrev pub Came : Table → Bool → Ev → List ℕ → List Cell → List Cell → List Mark → Type 0
Came table true e targets old new part = (new ≡ old) × (part ≡ marks_of table (c.At 0 e targets))
Came table false e targets old new part = marks table new ≡ marks table old ++ part

-- marks of this kind came of an event
pub record Yields (Kind : List Mark → Type 0) (table : Table) (stays : Bool) (e : Ev) (targets : List ℕ) (old new : List Cell) : Type 0 where
  pub part : List Mark
  pub whole : Came table stays e targets old new part
  pub kind : Kind part

-- marks of this kind stand behind the old ones
pub record Adds (Kind : List Mark → Type 0) (old new : List Mark) : Type 0 where
  pub part : List Mark
  pub whole : new ≡ old ++ part
  pub kind : Kind part
