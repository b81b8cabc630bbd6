-- Cells that take a step one after the other, each in its place.
use Rattle.std.specs.Prelude.{◌≡◌, ℕ, zero, suc, ◌-◌, List, ◌++◌, Bool, true, false, Option, Some, None, slice_get, slice_set}
use Rattle.event_tree.specs.Events.{Ev}
use Rattle.foreign_parts.specs.declared.filter.Verdict.{Verdict}
use Rattle.event_flow.specs.Marks.{StepsAll, marks, marks_of}
use Rattle.event_flow.specs.Steps.{Table}
use Rattle.event_flow.specs.declared.cell.Cell.{Cell}
use Rattle.event_flow.specs.declared.cell.Cell.TheVariants as c
use Rattle.event_flow.specs.declared.step.FlowStep.{FlowStep}

-- the event that meets the next step
abbrev pub event_at : Cell → Option Ev
event_at (c.At zero e targets) = Some e
event_at (c.At (suc skip) e targets) = None
event_at (c.Came outcome) = None

-- an event of the cell meets the next step
abbrev pub Arrives : Cell → Type 0
Arrives cell = (e : Ev) × (event_at cell ≡ Some e)

-- a cell that passes over one step
abbrev pub passed : Cell → Cell
passed (c.At skip e targets) = c.At (skip - 1) e targets
passed (c.Came outcome) = c.Came outcome

-- whether a cell passes over a step: then it has, and else it is as it was
abbrev pub Passes : Bool → Cell → Cell → Type 0
Passes true old new = (event_at old ≡ None) × (new ≡ passed old)
Passes false old new = Arrives old × (new ≡ old)

-- a cell that is to pass over so many steps
abbrev pub passing : ℕ → Cell → Cell
passing over (c.At skip e targets) = c.At over e targets
passing over (c.Came outcome) = c.Came outcome

module _ (may : ℕ → Ev → Verdict → Type 0) (table : Table) (s : FlowStep) where
  -- the cell at this place has taken a step: the first that came of it stands there, the others are these
  pub record Takes (at : ℕ) (old new others : List Cell) : Type 0 where
    pub before : Cell
    pub after : Cell
    pub was : slice_get old at ≡ Some before
    pub whole : new ≡ slice_set old at after
    pub becomes : StepsAll may table s (marks_of table before) (marks_of table after ++ marks table others)
