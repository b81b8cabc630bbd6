-- The body of a row in a page of version 2 of the queue (this project's tables): the origin of the row, which is the id of its input, behind
-- its length in four bytes, and then the event.
use Rattle.std.specs.Prelude.{◌≡◌, ◌⊎◌, ℕ, ◌+◌, ◌-◌, ◌==◌, ◌||◌, ◌<◌, ◌≤◌, ◌^◌, nat_lt, Bool, List, [], ◌++◌, length, if◌then◌else◌, Result, Ok, Err}
use Rattle.std.specs.Str.{IsUtf8, is_utf8}
use Rattle.event_tree.specs.Events.{Ev}
use Rattle.crc_frame.specs.Fronts.{◌>>=◌, Reads, front_at, number_at, count_bytes, run_bytes}
use Rattle.element_code.specs.Parts.{event_spelling}
use Rattle.element_code.specs.Values.{IsWhole}
use Rattle.element_code.specs.Reading.{event_at}
use Rattle.element_code.specs.Faults.{IsRefusedAt}
use Rattle.element_code.specs.Gives.{ReadsAs}
use Rattle.element_code.specs.declared.fault.ElementFault.{ElementFault}
use Rattle.element_code.specs.declared.row.Row.{Row}

-- the id of an input: UTF-8, of 1 to 255 bytes
pub record IsOrigin (bytes : List ℕ) : Type 0 where
  pub utf8 : IsUtf8 bytes
  pub some : 1 ≤ length bytes
  pub short : length bytes ≤ 255

-- the one spelling of a row
abbrev pub row_spelling : List ℕ → Ev → List ℕ
row_spelling origin event = run_bytes origin ++ event_spelling event

-- these bytes are the body of this row
pub record RowBody (bytes origin : List ℕ) (event : Ev) : Type 0 where
  pub is_origin : IsOrigin origin
  pub is_event : IsWhole event
  pub short : length (event_spelling event) ≤ 16777216
  pub spelled : row_spelling origin event ≡ bytes

-- ---- where bytes stop being the body of a row

-- The place at which bytes are refused: within the length of the origin, which is cut; at that length, if it isn't one from 1 to 255, be the
-- bytes behind it there or not; within the origin, which is cut; at the origin, if it isn't UTF-8; or behind it, where they stop being an event.
pub data IsRowRefusedAt (bytes : List ℕ) (at : ℕ) : Type 0 where
  cut_length : length bytes < 4 → at ≡ length bytes → IsRowRefusedAt bytes at
  bad_length : (n : ℕ) (rest : List ℕ) → n < 2 ^ 32 → bytes ≡ count_bytes n ++ rest
      → (n ≡ 0) ⊎ (255 < n) → at ≡ 0 → IsRowRefusedAt bytes at
  cut_origin : (n : ℕ) (rest : List ℕ) → 1 ≤ n → n ≤ 255 → bytes ≡ count_bytes n ++ rest
      → length rest < n → at ≡ length bytes → IsRowRefusedAt bytes at
  no_text : (own rest : List ℕ) → 1 ≤ length own → length own ≤ 255 → bytes ≡ run_bytes own ++ rest
      → (IsUtf8 own → ⊥) → at ≡ 4 → IsRowRefusedAt bytes at
  no_event : (origin rest : List ℕ) (inner : ℕ) → IsOrigin origin → bytes ≡ run_bytes origin ++ rest
      → IsRefusedAt rest inner → at ≡ 4 + length origin + inner → IsRowRefusedAt bytes at

-- ---- bytes as rows, read once from the front

abbrev pub is_bad_length : ℕ → Bool
is_bad_length n = (n == 0) || nat_lt 255 n

-- bytes behind their length, which is one from 1 to 255
abbrev pub short_run_at : Reads (List ℕ)
short_run_at bytes = number_at 4 bytes >>= λ n. (if is_bad_length n.0 then Err (length bytes) else front_at n.0 n.1)

-- the origin, or the fault at its length or at its first byte
abbrev pub origin_at : Reads (List ℕ)
origin_at bytes = short_run_at bytes >>= λ x. (if is_utf8 x.0 then Ok x else Err (length bytes - 4))

-- an event of at most 16,777,216 bytes
abbrev pub short_event_at : List ℕ → Result Ev ℕ
short_event_at bytes = if nat_lt 16777216 (length bytes) then Err (length bytes - 16777216) else event_at bytes

abbrev pub row : List ℕ → Ev → Row
row origin event = record { origin = origin; event = event }

abbrev pub row_at : List ℕ → Result Row ℕ
row_at bytes = origin_at bytes >>= λ o. (short_event_at o.1 >>= λ e. Ok (row o.0 e))

-- ---- what is promised

-- the row of which these bytes are the body is what was read, unless memory ran out
abbrev pub ReadsEachRow : Result Row ElementFault → List ℕ → Type 0
ReadsEachRow read bytes = (origin : List ℕ) (e : Ev) → RowBody bytes origin e → ReadsAs read (row origin e)

-- these bytes are the body of a row
abbrev pub SpellsRow : List ℕ → Type 0
SpellsRow bytes = (origin : List ℕ) × (e : Ev) × RowBody bytes origin e

-- no body of a row begins another
abbrev pub NoRowBeginsAnother : Type 0
NoRowBeginsAnother =
    (bytes more origin other_origin : List ℕ) (event other : Ev) → RowBody bytes origin event → RowBody (bytes ++ more) other_origin other
    → (origin ≡ other_origin) × (event ≡ other) × (more ≡ [])

-- the bodies of rows are refused nowhere
abbrev pub BodiesAreNotRefused : Type 0
BodiesAreNotRefused = (bytes : List ℕ) (at : ℕ) (origin : List ℕ) (event : Ev) → RowBody bytes origin event → IsRowRefusedAt bytes at → ⊥
