-- Where bytes stop being the spelling of an event: a place is counted from the first byte.
use Rattle.std.specs.Prelude.{◌≡◌, ◌≢◌, ℕ, ◌+◌, ◌<◌, ◌≤◌, ◌^◌, ◌⊎◌, List, [], ◌∷◌, ◌++◌, length}
use Rattle.event_tree.specs.Events.{Ev}
use Rattle.crc_frame.specs.Fronts.{EndIn}
use Rattle.element_code.specs.Parts.{Part, plain, text, many, count, key, part_bytes, bytes_of, event_parts, event_spelling}
use Rattle.element_code.specs.Values.{IsWhole}

-- The bytes end within a part like this one. Its tag and its length say how far it goes, and what it says doesn't count.
abbrev pub EndWithin : Part → List ℕ → Type 0
EndWithin (plain tag own) bytes = (other : List ℕ) × (length other ≡ length own) × EndIn (part_bytes (plain tag other)) bytes
EndWithin (text own) bytes = (other : List ℕ) × (length other < 2 ^ 32) × EndIn (part_bytes (text other)) bytes
EndWithin (many tag n) bytes = (other : ℕ) × EndIn (part_bytes (many tag other)) bytes
EndWithin (count n) bytes = (other : ℕ) × EndIn (part_bytes (count other)) bytes
EndWithin (key own) bytes = (other : List ℕ) × (length other < 2 ^ 32) × EndIn (part_bytes (key other)) bytes

-- these bytes begin with the part, or end within one like it
abbrev pub CanBe : Part → List ℕ → Type 0
CanBe part bytes = ((more : List ℕ) × (bytes ≡ part_bytes part ++ more)) ⊎ EndWithin part bytes

-- where a part counts that can't stand: a key behind its length, and any other at its first byte
abbrev pub place_in : Part → ℕ
place_in (plain tag own) = 0
place_in (text own) = 0
place_in (many tag n) = 0
place_in (count n) = 0
place_in (key own) = 4

-- the part may come next behind these, in one of the lists of parts
abbrev pub MayFollow : (List Part → Type 0) → List Part → Part → Type 0
MayFollow is front part = (more : List Part) × is (front ++ part ∷ more)

-- Where the bytes stop being one of the spellings that these lists of parts are: they are cut within a part that may come next, or no part that may come next can be what stands there.
pub data Stops (is : List Part → Type 0) (bytes : List ℕ) (at : ℕ) : Type 0 where
  cut : (front : List Part) (part : Part) (rest : List ℕ)
      → MayFollow is front part → bytes ≡ bytes_of front ++ rest
      → EndWithin part rest → at ≡ length bytes → Stops is bytes at
  misfit : (front : List Part) (part : Part) (rest : List ℕ)
      → MayFollow is front part → bytes ≡ bytes_of front ++ rest
      → ((other : Part) → MayFollow is front other → CanBe other rest → ⊥)
      → at ≡ length (bytes_of front) + place_in part → Stops is bytes at

-- the parts of some event
abbrev pub AreEventParts : List Part → Type 0
AreEventParts parts = (event : Ev) × IsWhole event × (parts ≡ event_parts event)

-- The place at which bytes are refused: too long; or the first part of them that can't stand; or what stands behind an event.
pub data IsRefusedAt (bytes : List ℕ) (at : ℕ) : Type 0 where
  long : 16777216 < length bytes → at ≡ 16777216 → IsRefusedAt bytes at
  stops : length bytes ≤ 16777216 → Stops AreEventParts bytes at → IsRefusedAt bytes at
  behind : length bytes ≤ 16777216 → (parts : List Part) (rest : List ℕ)
      → AreEventParts parts → bytes ≡ bytes_of parts ++ rest → rest ≢ []
      → at ≡ length (bytes_of parts) → IsRefusedAt bytes at

-- bytes are refused at one place at most
abbrev pub HasOnePlace : (List ℕ → ℕ → Type 0) → Type 0
HasOnePlace IsRefused = (bytes : List ℕ) (at other : ℕ) → IsRefused bytes at → IsRefused bytes other → at ≡ other

-- bytes that spell an event are refused nowhere
abbrev pub SpelledAreNotRefused : Type 0
SpelledAreNotRefused = (bytes : List ℕ) (at : ℕ) (event : Ev)
    → IsWhole event → event_spelling event ≡ bytes → length bytes ≤ 16777216
    → IsRefusedAt bytes at → ⊥
