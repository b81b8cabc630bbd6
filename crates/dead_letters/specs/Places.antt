-- Where bytes stop being the body of a letter: a place is counted from the first byte.
use Rattle.std.specs.Prelude.{◌≡◌, ◌↔◌, ◌<◌, ◌≤◌, ◌^◌, ◌+◌, ◌-◌, ℕ, ℤ, List, ◌++◌, length, take, Err}
use Rattle.std.specs.Str.{IsUtf8}
use Rattle.crc_frame.specs.Bytes.{IsBytes}
use Rattle.plain_data.specs.Calendar.{IsMoment}
use Rattle.crc_frame.specs.Fronts.{run_bytes, EndIn}
use Rattle.element_code.specs.Parts.{time_bytes}
use Rattle.element_code.specs.Faults.{IsRefusedAt}
use Rattle.dead_letters.specs.Records.{letter_at}

-- a text: the bytes end within one that could stand there, or the one that stands there isn't UTF-8
pub data IsTextRefusedAt (bytes : List ℕ) (at : ℕ) : Type 0 where
  cut_text : (other : List ℕ) → length other < 2 ^ 32 → EndIn (run_bytes other) bytes → at ≡ length bytes → IsTextRefusedAt bytes at
  no_text : (own rest : List ℕ) → length own < 2 ^ 32 → bytes ≡ run_bytes own ++ rest → (IsUtf8 own → ⊥) → at ≡ 4 → IsTextRefusedAt bytes at

-- a moment: it is cut, or no moment has these bytes
pub data IsMomentRefusedAt (bytes : List ℕ) (at : ℕ) : Type 0 where
  cut_moment : length bytes < 12 → at ≡ length bytes → IsMomentRefusedAt bytes at
  no_moment : 12 ≤ length bytes → ((t : ℤ) → IsMoment t → time_bytes t ≡ take 12 bytes → ⊥) → at ≡ 0 → IsMomentRefusedAt bytes at

-- two parts, one behind the other: the first one is refused, or it stands there, and what is behind it is refused
pub data InOrder (Is : List ℕ → Type 0) (First Rest : List ℕ → ℕ → Type 0) (bytes : List ℕ) (at : ℕ) : Type 0 where
  here : First bytes at → InOrder Is First Rest bytes at
  after : (front rest : List ℕ) (inner : ℕ) → Is front → bytes ≡ front ++ rest → Rest rest inner → at ≡ length front + inner → InOrder Is First Rest bytes at

-- the bytes of a text, and those of a moment
abbrev pub AreText : List ℕ → Type 0
AreText front = (own : List ℕ) × IsUtf8 own × (length own < 2 ^ 32) × (front ≡ run_bytes own)

abbrev pub AreMoment : List ℕ → Type 0
AreMoment front = (t : ℤ) × IsMoment t × (front ≡ time_bytes t)

-- the kind, the id, the reason, the moment and the event
abbrev pub IsLetterRefusedAt : List ℕ → ℕ → Type 0
IsLetterRefusedAt = InOrder AreText IsTextRefusedAt (InOrder AreText IsTextRefusedAt (InOrder AreText IsTextRefusedAt (InOrder AreMoment IsMomentRefusedAt IsRefusedAt)))

-- bytes are refused exactly at the place where reading stops
abbrev pub PlacesAreExact : Type 0
PlacesAreExact = (bytes : List ℕ) (at : ℕ) → IsBytes bytes → IsLetterRefusedAt bytes at ↔ ((at ≤ length bytes) × (letter_at bytes ≡ Err (length bytes - at)))
