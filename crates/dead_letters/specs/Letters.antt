-- The bytes of dead letters (this project's tables). The body of a letter is its kind, its id and its reason, each behind its length in four
-- bytes, the moment in twelve, and the event. A record is the length of a body in four bytes, the body, and the CRC-32 of both in four.
use Rattle.std.specs.Prelude.{◌<◌, ◌≤◌, ◌^◌, ℕ, ℤ, List, [], ◌∷◌, ◌++◌, length, ⊤}
use Rattle.std.specs.Str.{IsUtf8}
use Rattle.byteorder.specs.Endian.{big_bytes}
use Rattle.crc_frame.specs.Crc.{crc32}
use Rattle.plain_data.specs.Calendar.{IsMoment}
use Rattle.event_tree.specs.Events.{Ev}
use Rattle.crc_frame.specs.Fronts.{count_bytes, run_bytes}
use Rattle.element_code.specs.Parts.{time_bytes, event_spelling}
use Rattle.element_code.specs.Values.{IsWhole}
use Rattle.dead_letters.specs.declared.letter.DeadLetter.{DeadLetter}

abbrev pub letter : List ℕ → List ℕ → List ℕ → ℤ → Ev → DeadLetter
letter kind id reason moment event = record { kind = kind; id = id; reason = reason; moment = moment; event = event }

-- the one spelling of a letter
unfoldable pub letter_body : DeadLetter → List ℕ
letter_body l = run_bytes l.kind ++ (run_bytes l.id ++ (run_bytes l.reason ++ (time_bytes l.moment ++ event_spelling l.event)))

-- what the CRC-32 of a record covers, and the record
abbrev pub covered : List ℕ → List ℕ
covered body = count_bytes (length body) ++ body

unfoldable pub record_of : List ℕ → List ℕ
record_of body = covered body ++ big_bytes 4 (crc32 (covered body))

abbrev pub record_bytes : DeadLetter → List ℕ
record_bytes l = record_of (letter_body l)

-- how many bytes the record of a letter has
abbrev pub size_of : DeadLetter → ℕ
size_of l = length (record_bytes l)

-- a letter: three texts, a moment of the calendar, and an event of at most 16,777,216 bytes
pub record IsLetter (l : DeadLetter) : Type 0 where
  pub kind : IsUtf8 l.kind
  pub id : IsUtf8 l.id
  pub reason : IsUtf8 l.reason
  pub moment : IsMoment l.moment
  pub event : IsWhole l.event
  pub event_short : length (event_spelling l.event) ≤ 16777216

-- its body has a length of four bytes
abbrev pub FitsRecord : DeadLetter → Type 0
FitsRecord l = length (letter_body l) < 2 ^ 32

-- the bytes of a segment: its records, one behind the other
abbrev pub segment_bytes : List DeadLetter → List ℕ
segment_bytes [] = []
segment_bytes (l ∷ ls) = record_bytes l ++ segment_bytes ls

abbrev pub AreLetters : List DeadLetter → Type 0
AreLetters [] = ⊤
AreLetters (l ∷ ls) = (IsLetter l × FitsRecord l) × AreLetters ls
