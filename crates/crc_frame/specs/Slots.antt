-- A file of two slots that are written in turn. A slot is `width` bytes wide: a version in 2 bytes, its turn
-- in 8, then what it says, and in the last 4 the CRC-32 of all before. Numbers are big endian.
use Rattle.std.specs.Prelude.{◌≡◌, ◌⊎◌, ℕ, ◌+◌, ◌*◌, ◌%◌, ◌^◌, ◌<◌, Bool, ◌&&◌, ◌||◌, not, ◌==◌, ◌++◌, ◌≤◌, nat_lt, min, max, IsTrue, List, length, get_or, take, drop, Option, Some, None, if◌then◌else◌}
use Rattle.byteorder.specs.Endian.{big_number}
use Rattle.crc_frame.specs.Crc.{is_checked}
use Rattle.crc_frame.specs.declared.slots.Slot.{Slot}

-- where the slot of a turn stands
abbrev pub place_of : ℕ → ℕ → ℕ
place_of width turn = width * (turn % 2)

-- what stands in the file from a place on, as wide as a slot
abbrev pub slot_bytes : ℕ → ℕ → List ℕ → List ℕ
slot_bytes width place file = take width (drop place file)

-- the turn in the bytes of a slot
unfoldable pub turn_of : List ℕ → ℕ
turn_of slot = big_number 8 (drop 2 slot)

-- These bytes are an intact slot for this place: they are a whole slot, its CRC-32 matches, and the place is
-- that of its turn.
unfoldable pub is_slot : ℕ → ℕ → List ℕ → Bool
is_slot width place slot = (length slot == width) && is_checked slot && (place == place_of width (turn_of slot))

-- an intact slot stands at this place
abbrev pub is_intact : ℕ → ℕ → List ℕ → Bool
is_intact width place file = is_slot width place (slot_bytes width place file)

-- the intact slot at this place
abbrev pub slot_at : ℕ → ℕ → List ℕ → Option Slot
slot_at width place file =
    if is_intact width place file then Some (record { turn = turn_of (slot_bytes width place file); place = place }) else None

-- the first turn is the last of all, and the second the one after it
abbrev pub wraps : ℕ → ℕ → Bool
wraps turn next = (turn == 0xFFFF_FFFF_FFFF_FFFF) && (next == 0)

-- A turn is newer than another where it is greater, but 0 is newer than the last of all turns.
unfoldable pub is_newer : ℕ → ℕ → Bool
is_newer turn other = wraps other turn || (nat_lt other turn && not (wraps turn other))

-- the newest of two slots, so far as they are there
abbrev pub newest_of : Option Slot → Option Slot → Option Slot
newest_of None second = second
newest_of (Some first) None = Some first
newest_of (Some first) (Some second) = if is_newer second.turn first.turn then Some second else Some first

-- the newest intact slot of a file
abbrev pub newest_slot : ℕ → List ℕ → Option Slot
newest_slot width file = newest_of (slot_at width 0 file) (slot_at width width file)

-- ---- a write of the next slot

-- the place that the newest slot leaves free
abbrev pub next_place : ℕ → Slot → ℕ
next_place width newest = place_of width (newest.turn + 1)

-- The newest slot of the old content of a file stands in the new one, whatever else there is.
pub record KeepsNewest (width : ℕ) (old new : List ℕ) (newest : Slot) : Type 0 where
  pub was : newest_slot width old ≡ Some newest
  pub same : slot_bytes width newest.place new ≡ slot_bytes width newest.place old

-- Where no intact slot stands at the other place, or still the old one, the newest slot stays the newest.
abbrev pub TornSlotIsNotRead : Type 0
TornSlotIsNotRead =
    (width : ℕ) (old new : List ℕ) (newest : Slot) → 0 < width → KeepsNewest width old new newest
    → (slot_at width (next_place width newest) new ≡ None)
    ⊎ (slot_at width (next_place width newest) new ≡ slot_at width (next_place width newest) old)
    → newest_slot width new ≡ Some newest

-- Where the slot of the next turn stands there, it is the newest. The turn after 2^64 - 1 is 0.
abbrev pub NextSlotIsNewest : Type 0
NextSlotIsNewest =
    (width : ℕ) (old new : List ℕ) (newest next : Slot) → 0 < width → KeepsNewest width old new newest → newest.turn < 2 ^ 64
    → next.turn ≡ (newest.turn + 1) % 2 ^ 64 → slot_at width (next_place width newest) new ≡ Some next
    → newest_slot width new ≡ Some next

-- ---- slots as bytes

-- the newest slot of the file is this one, and has these bytes
pub record NewestIs (width : ℕ) (file : List ℕ) (newest : Slot) (bytes : List ℕ) : Type 0 where
  pub is : newest_slot width file ≡ Some newest
  pub bytes_are : slot_bytes width newest.place file ≡ bytes

-- the slot stands whole in the file, at the place of its turn
pub record StandsWhole (width : ℕ) (file : List ℕ) (s : Slot) : Type 0 where
  pub intact : IsTrue (is_intact width s.place file)
  pub turn : s.turn ≡ turn_of (slot_bytes width s.place file)
  pub place : s.place ≡ place_of width s.turn
  pub within : s.place + width ≤ length file

abbrev pub NewestSlotStandsWhole : Type 0
NewestSlotStandsWhole = (width : ℕ) (file : List ℕ) (newest : Slot) → 0 < width → newest_slot width file ≡ Some newest → StandsWhole width file newest

-- turns have 64 bits
abbrev pub TurnsFit : Type 0
TurnsFit = (width : ℕ) (file : List ℕ) (newest : Slot) → 0 < width → ((i : ℕ) → get_or file i 0 < 256) → newest_slot width file ≡ Some newest → newest.turn < 2 ^ 64

-- the slot that these bytes are, at the place of their turn
abbrev pub slot_of : ℕ → List ℕ → Slot
slot_of width bytes = record { turn = turn_of bytes; place = place_of width (turn_of bytes) }

-- these bytes are an intact slot of a turn
pub record IsSlotOf (width turn : ℕ) (slot : List ℕ) : Type 0 where
  pub intact : IsTrue (is_slot width (place_of width turn) slot)
  pub turn_is : turn_of slot ≡ turn

-- the turn behind another
abbrev pub next_turn : ℕ → ℕ
next_turn turn = (turn + 1) % 2 ^ 64

-- a file with a slot written over what stood at a place
abbrev pub with_slot : ℕ → List ℕ → List ℕ → List ℕ
with_slot place slot file = take place file ++ slot ++ drop (place + length slot) file

-- A write of a slot at a place that may be whole, torn or not done: beside the place the bytes are as before, and an intact slot
-- that stands there did so before, or is the one that was written.
pub record MayHoldSlot (width place : ℕ) (slot old new : List ℕ) : Type 0 where
  pub before : take (min place (length old)) new ≡ take (min place (length old)) old
  pub behind : drop (place + width) new ≡ drop (place + width) old
  pub no_longer : length new ≤ max (length old) (place + width)
  pub there : IsTrue (is_intact width place new) → (slot_bytes width place new ≡ slot_bytes width place old) ⊎ (slot_bytes width place new ≡ slot)

-- A slot of the next turn that was written, be it whole or torn, leaves the newest slot as it was, or is the newest itself, whole.
abbrev pub NextSlotIsOldOrNew : Type 0
NextSlotIsOldOrNew =
    (width : ℕ) (old new bytes slot : List ℕ) (newest : Slot) → 0 < width → newest.turn < 2 ^ 64 → NewestIs width old newest bytes
    → IsSlotOf width (next_turn newest.turn) slot → MayHoldSlot width (place_of width (next_turn newest.turn)) slot old new
    → NewestIs width new newest bytes ⊎ NewestIs width new (slot_of width slot) slot

-- Written whole, it is the newest.
abbrev pub NextSlotIsRead : Type 0
NextSlotIsRead =
    (width : ℕ) (old bytes slot : List ℕ) (newest : Slot) → 0 < width → newest.turn < 2 ^ 64 → NewestIs width old newest bytes
    → IsSlotOf width (next_turn newest.turn) slot → NewestIs width (with_slot (place_of width (next_turn newest.turn)) slot old) (slot_of width slot) slot

-- The first slot, of turn 0, in a file of no more bytes than a slot and without an intact one: torn, there is none or it.
abbrev pub FirstSlotIsNoneOrNew : Type 0
FirstSlotIsNoneOrNew =
    (width : ℕ) (old new slot : List ℕ) → 0 < width → length old ≤ width → newest_slot width old ≡ None → IsSlotOf width 0 slot
    → MayHoldSlot width 0 slot old new → (newest_slot width new ≡ None) ⊎ NewestIs width new (slot_of width slot) slot

-- Written whole, it is the newest.
abbrev pub FirstSlotIsRead : Type 0
FirstSlotIsRead =
    (width : ℕ) (old slot : List ℕ) → 0 < width → length old ≤ width → IsSlotOf width 0 slot
    → NewestIs width (with_slot 0 slot old) (slot_of width slot) slot
