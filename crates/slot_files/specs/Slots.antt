-- A file of two slots that are written in turn, by the bytes of its newest slot: all that such a file says is read of them.
use Rattle.std.specs.Prelude.{◌≡◌, ◌⊎◌, ◌<◌, ◌≤◌, ◌+◌, ◌-◌, ◌^◌, ℕ, max, nat_lt, List, length, take, drop, Option, Some, None, option_map, if◌then◌else◌}
use Rattle.byteorder.specs.Endian.{big_number}
use Rattle.io_traits.specs.Reads.{bytes_of, file_length}
use Rattle.crc_frame.specs.Crc.{crc32, is_checked}
use Rattle.crc_frame.specs.Slots.{place_of, slot_bytes, turn_of, is_slot, newest_slot, next_turn}
use Rattle.crc_frame.specs.declared.slots.Slot.{Slot}
use Rattle.io_traits.specs.Images.{FileImage, at_rest}
use Rattle.io_traits.specs.Chance.{NoChance}
use Rattle.io_traits.specs.Tails.{passes}

-- the bytes of the newest intact slot
abbrev pub newest_bytes : ℕ → List ℕ → Option (List ℕ)
newest_bytes width file = option_map (λ (s : Slot). slot_bytes width s.place file) (newest_slot width file)

-- A turn may come next in a file: 0 where no slot is intact and the file is no longer than one, and else that behind the newest.
pub data ComesNext (width : ℕ) (file : List ℕ) (turn : ℕ) : Type 0 where
  first : newest_bytes width file ≡ None → length file ≤ width → turn ≡ 0 → ComesNext width file turn
  next : (last : List ℕ) → newest_bytes width file ≡ Some last → turn_of last < 2 ^ 64 → turn ≡ next_turn (turn_of last) → ComesNext width file turn

-- the newest slot of a file is what it was before a slot was written into it, or it is this one
pub record HasOldOrNew (width turn : ℕ) (slot : List ℕ) (file : Option (List ℕ)) (new : FileImage) : Type 0 where
  pub newest : (newest_bytes width (bytes_of new.file) ≡ newest_bytes width (bytes_of file)) ⊎ (newest_bytes width (bytes_of new.file) ≡ Some slot)
  pub no_longer : file_length new.file ≤ max (file_length file) (place_of width turn + width)

-- A slot that is written into a file at rest, where its turn may come next, leaves the old newest slot or itself, if no slot stands by chance.
abbrev pub OldOrNew : ℕ → ℕ → List ℕ → FileImage → FileImage → Type 0
OldOrNew width turn slot old new =
    (file : Option (List ℕ)) → old ≡ at_rest file → ComesNext width (bytes_of file) turn → NoChance (passes (is_slot width)) new → HasOldOrNew width turn slot file new

-- ---- what such a file says

-- Why a slot isn't intact at 0, as what stands there and what ought to: its CRC-32 and the computed one; or, where these are equal, its turn, which has the other place, and the turn before.
unfoldable pub broken_slot : List ℕ → ℕ × ℕ
broken_slot slot =
    if is_checked slot then (turn_of slot, turn_of slot - 1)
    else (big_number 4 (drop (length slot - 4) slot), crc32 (take (length slot - 4) slot))

-- What its newest slot says. A file without an intact one says nothing if it is no longer than a slot, and else why the slot at 0 isn't intact.
abbrev pub said_by : {R : Type 0} → (List ℕ → R) → (ℕ × ℕ → R) → R → ℕ → List ℕ → Option (List ℕ) → R
said_by says broken nothing width file (Some slot) = says slot
said_by says broken nothing width file None = if nat_lt width (length file) then broken (broken_slot (take width file)) else nothing

abbrev pub said : {R : Type 0} → (List ℕ → R) → (ℕ × ℕ → R) → R → ℕ → List ℕ → R
said says broken nothing width file = said_by says broken nothing width file (newest_bytes width file)

-- A slot that is written into a file at rest, where its turn may come next, leaves said what was, or what it says, if no slot stands by chance.
abbrev pub OldOrNewSaid : {R : Type 0} → (List ℕ → R) → (ℕ × ℕ → R) → R → ℕ → ℕ → R → FileImage → FileImage → Type 0
OldOrNewSaid says broken nothing width turn next_said old new =
    (file : Option (List ℕ)) → old ≡ at_rest file → ComesNext width (bytes_of file) turn → NoChance (passes (is_slot width)) new
    → (said says broken nothing width (bytes_of new.file) ≡ said says broken nothing width (bytes_of file)) ⊎ (said says broken nothing width (bytes_of new.file) ≡ next_said)
