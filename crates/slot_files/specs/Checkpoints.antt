-- A slot of a checkpoint file, and what a file of two such slots says (this project's tables). A slot has 48 bytes, and all numbers are big
-- endian: the version, which is 1, in 2 bytes, the turn in 8, the number of the page in 4, its first open number in 8, its least number in 8,
-- its count of rows in 4, its length in 8, zero in 2, and the CRC-32 of these 44 bytes in 4.
use Rattle.std.specs.Prelude.{◌≡◌, ◌<◌, ◌≤◌, ◌%◌, ◌^◌, ◌==◌, ◌&&◌, ℕ, nat_lt, List, [], ◌++◌, length, take, drop, get_or, Option, Some, None, option_map, if◌then◌else◌}
use Rattle.byteorder.specs.Endian.{big_bytes, big_number}
use Rattle.crc_frame.specs.Crc.{crc32}
use Rattle.crc_frame.specs.Slots.{place_of, slot_bytes, turn_of, is_slot, newest_slot}
use Rattle.crc_frame.specs.declared.slots.Slot.{Slot}
use Rattle.io_traits.specs.declared.pages.PageState.{PageState}
use Rattle.slot_files.specs.declared.checkpoint.Slots.{Slots}

-- ---- slots as bytes

-- what the CRC-32 of a slot covers
unfoldable pub slot_body : ℕ → PageState → List ℕ
slot_body turn s =
    big_bytes 2 1 ++ big_bytes 8 turn ++ big_bytes 4 s.page ++ big_bytes 8 s.first_open ++ big_bytes 8 s.least ++ big_bytes 4 s.count
    ++ big_bytes 8 s.length ++ big_bytes 2 0

-- the one spelling of a slot
unfoldable pub slot_spelling : ℕ → PageState → List ℕ
slot_spelling turn s = slot_body turn s ++ big_bytes 4 (crc32 (slot_body turn s))

-- numbers that the fields of a slot hold
pub record FitsSlot (turn : ℕ) (s : PageState) : Type 0 where
  pub turn_fits : turn < 2 ^ 64
  pub page : s.page < 2 ^ 32
  pub first_open : s.first_open < 2 ^ 64
  pub least : s.least < 2 ^ 64
  pub count : s.count < 2 ^ 32
  pub length : s.length < 2 ^ 64

-- these bytes are the slot of this turn and this state
pub record IsCheckpointSlot (bytes : List ℕ) (turn : ℕ) (s : PageState) : Type 0 where
  pub fits : FitsSlot turn s
  pub spelled : slot_spelling turn s ≡ bytes

-- ---- what bytes say, read field by field

unfoldable pub version_of : List ℕ → ℕ
version_of slot = big_number 2 slot

unfoldable pub says : List ℕ → PageState
says slot = record {
  page = big_number 4 (drop 10 slot);
  first_open = big_number 8 (drop 14 slot);
  least = big_number 8 (drop 22 slot);
  count = big_number 4 (drop 30 slot);
  length = big_number 8 (drop 34 slot);
}

unfoldable pub zero_of : List ℕ → ℕ
zero_of slot = big_number 2 (drop 42 slot)

unfoldable pub stored_crc : List ℕ → ℕ
stored_crc slot = big_number 4 (drop 44 slot)

unfoldable pub computed_crc : List ℕ → ℕ
computed_crc slot = crc32 (take 44 slot)

-- the turn and the state of the slot that these bytes are, if they are one
unfoldable pub slot_in : List ℕ → Option (ℕ × PageState)
slot_in bytes =
    if is_slot 48 (place_of 48 (turn_of bytes)) bytes && (version_of bytes == 1) && (zero_of bytes == 0) then Some (turn_of bytes, says bytes) else None

-- ---- what a file says

-- what a slot of a file says
abbrev pub said_at : List ℕ → Slot → ℕ × PageState
said_at file slot = (slot.turn, says (slot_bytes 48 slot.place file))

-- the turn of the newest intact slot, and the state that it tells
abbrev pub newest_in : List ℕ → Option (ℕ × PageState)
newest_in file = option_map (said_at file) (newest_slot 48 file)

-- the version of the newest slot; 0 where there is none
abbrev pub version_at : List ℕ → Option Slot → ℕ
version_at file None = 0
version_at file (Some slot) = version_of (slot_bytes 48 slot.place file)

-- what the bytes at 0 tell, if they are as many as those of a slot; else 0
abbrev pub at_first : (List ℕ → ℕ) → List ℕ → ℕ
at_first tells file = if nat_lt (length file) 48 then 0 else tells (take 48 file)

-- what the front of a file says, and how long the file is
abbrev pub slots_within : List ℕ → ℕ → Slots
slots_within front len = record {
  newest = newest_in front;
  version = version_at front (newest_slot 48 front);
  length = len;
  stored = at_first stored_crc front;
  computed = at_first computed_crc front;
  turn = at_first turn_of front;
}

abbrev pub slots_of : List ℕ → Slots
slots_of file = slots_within file (length file)

-- ---- laws

-- a slot reads as what it spells
abbrev pub SlotsAreReadBack : Type 0
SlotsAreReadBack = (bytes : List ℕ) (turn : ℕ) (s : PageState) → IsCheckpointSlot bytes turn s → slot_in bytes ≡ Some (turn, s)

-- and what is read of bytes is spelled so
abbrev pub SlotsAreSpelled : Type 0
SlotsAreSpelled = (bytes : List ℕ) (turn : ℕ) (s : PageState) → ((i : ℕ) → get_or bytes i 0 < 256) → slot_in bytes ≡ Some (turn, s) → IsCheckpointSlot bytes turn s

-- no slot begins another
abbrev pub NoSlotBeginsAnother : Type 0
NoSlotBeginsAnother =
    (bytes more : List ℕ) (turn other_turn : ℕ) (s other : PageState) → IsCheckpointSlot bytes turn s → IsCheckpointSlot (bytes ++ more) other_turn other
    → (turn ≡ other_turn) × (s ≡ other) × (more ≡ [])

-- Where no slot is intact though the CRC-32 of the one at 0 matches, that slot is of an odd turn, which stands at the other place.
abbrev pub MisplacedTurnIsOdd : Type 0
MisplacedTurnIsOdd =
    (file : List ℕ) → newest_in file ≡ None → 48 ≤ length file → stored_crc (take 48 file) ≡ computed_crc (take 48 file)
    → turn_of (take 48 file) % 2 ≡ 1
