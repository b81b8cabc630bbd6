-- A row that is written and kept for the batch that gives it.
use Rattle.std.specs.Prelude.{◌≡◌, ◌⊎◌, ◌++◌, ◌∷◌, [], ℕ, ◌==◌, if◌then◌else◌, List, Result, Ok, Err}
use Rattle.event_tree.specs.Events.{Ev}
use Rattle.element_code.specs.declared.row.Origin.TheVariants.{Id}
use Rattle.queue_core.specs.Views.{QueueView}
use Rattle.queue_core.specs.declared.keeping.Unwritten.{Unwritten}
use Rattle.queue_core.specs.declared.kept.KeptRow.{KeptRow}
use Rattle.queue_core.specs.declared.writing.WriteFault.{WriteFault}

-- a queue of which these rows are kept
abbrev pub with_kept : List KeptRow → QueueView → QueueView
with_kept kept v = record v { cursor = record v.cursor { kept = kept } }

-- one row more is kept, or the same rows
abbrev pub KeepsOne : List KeptRow → List KeptRow → Type 0
KeepsOne old new = (new ≡ old) ⊎ ((k : KeptRow) × (new ≡ old ++ k ∷ []))

-- the last row of a queue, whose element begins at this place of the head page
abbrev pub kept_row : QueueView → ℕ → ℕ → List ℕ → Ev → KeptRow
kept_row v number place origin event = record { page = v.top.number; place = place; row = record { number = number; origin = Id origin; event = event; next = v.top.page.state.length } }

-- where the element of the row begins that makes one queue of another: behind the others of the head page, or first in a new one
abbrev pub place_between : QueueView → QueueView → ℕ
place_between v next = if next.top.number == v.top.number then v.top.page.state.length else 1

-- why a row wasn't written
abbrev pub cause_of : Result ℕ Unwritten → Result ℕ WriteFault
cause_of (Ok number) = Ok number
cause_of (Err unwritten) = Err unwritten.cause
