-- A position file: two slots of 24 bytes that are written in turn, of which the newest says how much of another file counts (this project's tables).
-- A slot has the version, which is 1, in 2 bytes, the turn in 8, the position in 8, zero in 2, and the CRC-32 of these 20 bytes in 4. All
-- numbers are big endian.
use Rattle.std.specs.Prelude.{◌≡◌, ◌≢◌, ◌<◌, ◌≤◌, ◌^◌, ◌==◌, ◌&&◌, ℕ, List, [], ◌++◌, length, drop, get_or, Option, Some, None, if◌then◌else◌}
use Rattle.byteorder.specs.Endian.{big_bytes, big_number}
use Rattle.crc_frame.specs.Crc.{crc32}
use Rattle.crc_frame.specs.Slots.{place_of, turn_of, is_slot}
use Rattle.slot_files.specs.Slots.{said}
use Rattle.slot_files.specs.declared.recorded.Recorded.{Recorded}
use Rattle.slot_files.specs.declared.recorded.Recorded.TheVariants.{Nothing, Position, Damaged}

-- ---- slots as bytes

-- what the CRC-32 of a slot covers
unfoldable pub slot_body : ℕ → ℕ → List ℕ
slot_body turn position = big_bytes 2 1 ++ big_bytes 8 turn ++ big_bytes 8 position ++ big_bytes 2 0

-- the one spelling of a slot
unfoldable pub slot_spelling : ℕ → ℕ → List ℕ
slot_spelling turn position = slot_body turn position ++ big_bytes 4 (crc32 (slot_body turn position))

-- these bytes are the slot of this turn and this position
pub record IsPositionSlot (bytes : List ℕ) (turn position : ℕ) : Type 0 where
  pub turn_fits : turn < 2 ^ 64
  pub position_fits : position < 2 ^ 64
  pub spelled : slot_spelling turn position ≡ bytes

-- ---- what bytes say, read field by field

unfoldable pub version_of : List ℕ → ℕ
version_of slot = big_number 2 slot

unfoldable pub position_of : List ℕ → ℕ
position_of slot = big_number 8 (drop 10 slot)

unfoldable pub zero_of : List ℕ → ℕ
zero_of slot = big_number 2 (drop 18 slot)

-- the turn and the position of the slot that these bytes are, if they are one
unfoldable pub slot_in : List ℕ → Option (ℕ × ℕ)
slot_in bytes =
    if is_slot 24 (place_of 24 (turn_of bytes)) bytes && (version_of bytes == 1) && (zero_of bytes == 0) then Some (turn_of bytes, position_of bytes) else None

-- ---- what a file records

abbrev pub position_said : List ℕ → Recorded
position_said slot = Position (turn_of slot) (position_of slot)

abbrev pub damaged_at_first : ℕ × ℕ → Recorded
damaged_at_first pair = Damaged pair.0 pair.1

-- what its newest intact slot says; a file that has none is damaged, if it is longer than a slot
abbrev pub recorded_in : List ℕ → Recorded
recorded_in file = said position_said damaged_at_first Nothing 24 file

-- ---- laws

-- a slot reads as what it spells
abbrev pub SlotsAreReadBack : Type 0
SlotsAreReadBack = (bytes : List ℕ) (turn position : ℕ) → IsPositionSlot bytes turn position → slot_in bytes ≡ Some (turn, position)

-- and what is read of bytes is spelled so
abbrev pub SlotsAreSpelled : Type 0
SlotsAreSpelled = (bytes : List ℕ) (turn position : ℕ) → ((i : ℕ) → get_or bytes i 0 < 256) → slot_in bytes ≡ Some (turn, position) → IsPositionSlot bytes turn position

-- no slot begins another
abbrev pub NoSlotBeginsAnother : Type 0
NoSlotBeginsAnother =
    (bytes more : List ℕ) (turn position other_turn other_position : ℕ) → IsPositionSlot bytes turn position → IsPositionSlot (bytes ++ more) other_turn other_position
    → (turn ≡ other_turn) × (position ≡ other_position) × (more ≡ [])

-- where a file is damaged, what stands there differs from what ought to
abbrev pub DamagesDiffer : Type 0
DamagesDiffer = (file : List ℕ) (found expected : ℕ) → recorded_in file ≡ Damaged found expected → found ≢ expected

-- a file that records a position is long enough for each slot that comes next
abbrev pub PositionsHaveRoom : Type 0
PositionsHaveRoom = (file : List ℕ) (turn position next : ℕ) → recorded_in file ≡ Position turn position → place_of 24 next ≤ length file
