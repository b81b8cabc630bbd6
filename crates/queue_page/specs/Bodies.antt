-- The body of a row, by the version of its page (this project's tables): in a page of version 1 an event alone, in one of version 2 an event
-- behind its origin.
use Rattle.std.specs.Prelude.{◌≡◌, ◌⊎◌, ◌≤◌, ◌==◌, ℕ, List, length, if◌then◌else◌, Result, Ok}
use Rattle.event_tree.specs.Events.{Ev}
use Rattle.crc_frame.specs.Fronts.{◌>>=◌}
use Rattle.element_code.specs.Parts.{event_spelling}
use Rattle.element_code.specs.Values.{IsWhole}
use Rattle.element_code.specs.Faults.{IsRefusedAt}
use Rattle.element_code.specs.RowBodies.{RowBody, IsRowRefusedAt, row_spelling, short_event_at, row_at}
use Rattle.element_code.specs.declared.row.Origin.{Origin}
use Rattle.element_code.specs.declared.row.Origin.TheVariants.{Unknown, Id}

-- ---- the grammar

-- these bytes are an event alone
pub record IsEventBody (bytes : List ℕ) (event : Ev) : Type 0 where
  pub is_event : IsWhole event
  pub short : length bytes ≤ 16777216
  pub spelled : event_spelling event ≡ bytes

-- these bytes are the body of this row in a page of this version
abbrev pub IsBody : ℕ → List ℕ → Origin → Ev → Type 0
IsBody version bytes Unknown event = (version ≡ 1) × IsEventBody bytes event
IsBody version bytes (Id id) event = (version ≡ 2) × RowBody bytes id event

-- its one spelling
abbrev pub body_spelling : Origin → Ev → List ℕ
body_spelling Unknown event = event_spelling event
body_spelling (Id id) event = row_spelling id event

-- where bytes stop being a body in a page of this version
abbrev pub IsBodyRefusedAt : ℕ → List ℕ → ℕ → Type 0
IsBodyRefusedAt version bytes at = ((version ≡ 1) × IsRefusedAt bytes at) ⊎ ((version ≡ 2) × IsRowRefusedAt bytes at)

-- ---- read once from the front

-- what the bytes say in a page of this version, or how many are left where they stop being a body
unfoldable pub body_at : ℕ → List ℕ → Result (Origin × Ev) ℕ
body_at version bytes = if version == 1 then (short_event_at bytes >>= λ event. Ok (Unknown, event)) else (row_at bytes >>= λ row. Ok (Id row.origin, row.event))
