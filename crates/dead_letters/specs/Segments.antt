-- Which segments of a queue count: `dead.seg` has two slots of 32 bytes that are written in turn (this project's tables). A slot has the version,
-- which is 2, in 2 bytes, the turn in 8, the number of the first segment in 4 and that of the last in 4, the length of the last in 8, zero in 2, and
-- the CRC-32 of these 28 bytes in 4. All numbers are big endian.
use Rattle.std.specs.Prelude.{◌≡◌, ◌≢◌, ◌<◌, ◌≤◌, ◌^◌, ℕ, nat_lt, List, ◌++◌, length, drop, if◌then◌else◌}
use Rattle.byteorder.specs.Endian.{big_bytes, big_number}
use Rattle.crc_frame.specs.Crc.{crc32}
use Rattle.crc_frame.specs.Slots.{place_of, turn_of}
use Rattle.io_traits.specs.Images.{FileImage}
use Rattle.slot_files.specs.Slots.{said, OldOrNewSaid}
use Rattle.dead_letters.specs.declared.segments.Segments.{Segments}
use Rattle.dead_letters.specs.declared.segments.Counted.{Counted}
use Rattle.dead_letters.specs.declared.segments.Counted.TheVariants.{Nothing, Count, Damaged}

abbrev pub segments : ℕ → ℕ → ℕ → Segments
segments first last length = record { first = first; last = last; length = length }

-- ---- slots as bytes

-- what the CRC-32 of a slot covers
unfoldable pub slot_body : ℕ → Segments → List ℕ
slot_body turn s = big_bytes 2 2 ++ big_bytes 8 turn ++ big_bytes 4 s.first ++ big_bytes 4 s.last ++ big_bytes 8 s.length ++ big_bytes 2 0

-- the one spelling of a slot
unfoldable pub slot_spelling : ℕ → Segments → List ℕ
slot_spelling turn s = slot_body turn s ++ big_bytes 4 (crc32 (slot_body turn s))

-- numbers of segments have 32 bits, and a length has 64
pub record AreSegments (s : Segments) : Type 0 where
  pub first : s.first < 2 ^ 32
  pub last : s.last < 2 ^ 32
  pub length : s.length < 2 ^ 64
  pub order : s.first ≤ s.last

-- ---- what bytes say, read field by field

unfoldable pub first_of : List ℕ → ℕ
first_of slot = big_number 4 (drop 10 slot)

unfoldable pub last_of : List ℕ → ℕ
last_of slot = big_number 4 (drop 14 slot)

unfoldable pub length_of : List ℕ → ℕ
length_of slot = big_number 8 (drop 18 slot)

-- what is said of these segments; where the first is above the last, these are what was found and what was expected
abbrev pub said_by : ℕ → Segments → Counted
said_by turn s = if nat_lt s.last s.first then Damaged s.first s.last else Count turn s

abbrev pub slot_says : List ℕ → Counted
slot_says slot = said_by (turn_of slot) (segments (first_of slot) (last_of slot) (length_of slot))

abbrev pub damaged_at_first : ℕ × ℕ → Counted
damaged_at_first pair = Damaged pair.0 pair.1

-- What the newest intact slot of a file says; a file that has none is damaged, if it is longer than a slot.
abbrev pub counted_in : List ℕ → Counted
counted_in file = said slot_says damaged_at_first Nothing 32 file

-- a slot of the next turn that is written into a file at rest leaves what counted, or this
abbrev pub OldOrNewSegments : ℕ → Segments → FileImage → FileImage → Type 0
OldOrNewSegments turn s = OldOrNewSaid slot_says damaged_at_first Nothing 32 turn (Count turn s)

-- where segments count, the first is not above the last
abbrev pub AreOrdered : Counted → Type 0
AreOrdered counted = (turn : ℕ) (s : Segments) → counted ≡ Count turn s → s.first ≤ s.last

-- ---- laws

-- where a file is damaged, what stands there differs from what ought to
abbrev pub DamagesDiffer : Type 0
DamagesDiffer = (file : List ℕ) (found expected : ℕ) → counted_in file ≡ Damaged found expected → found ≢ expected

-- what a file says is segments in order, and it is long enough for each slot that comes next
pub record HasRoom (file : List ℕ) (s : Segments) : Type 0 where
  pub order : s.first ≤ s.last
  pub room : (next : ℕ) → place_of 32 next ≤ length file

abbrev pub CountedHaveRoom : Type 0
CountedHaveRoom = (file : List ℕ) (turn : ℕ) (s : Segments) → counted_in file ≡ Count turn s → HasRoom file s
