-- Bytes as dead letters, read once from the front; and the records of a segment, with the place and the two numbers of each damage.
use Rattle.std.specs.Prelude.{◌≡◌, ℕ, zero, suc, ◌+◌, ◌-◌, ◌==◌, ℤ, pos, ◌+ℤ◌, ◌*ℤ◌, ◌&&◌, nat_lt, List, [], ◌∷◌, length, take, drop, Option, Some, None, Result, Ok, Err, if◌then◌else◌, ⊤}
use Rattle.std.specs.Int.{w64, cast_signed}
use Rattle.std.specs.Str.{is_utf8}
use Rattle.byteorder.specs.Endian.{big_number}
use Rattle.crc_frame.specs.Crc.{crc32}
use Rattle.crc_frame.specs.Bytes.{IsBytes}
use Rattle.crc_frame.specs.Fronts.{◌>>=◌, Reads, front_at, run_at}
use Rattle.element_code.specs.Reading.{is_moment}
use Rattle.element_code.specs.RowBodies.{short_event_at}
use Rattle.dead_letters.specs.Letters.{letter, AreLetters, segment_bytes}
use Rattle.dead_letters.specs.declared.letter.DeadLetter.{DeadLetter}
use Rattle.dead_letters.specs.declared.faults.RecordFault.{RecordFault}
use Rattle.dead_letters.specs.declared.faults.ReadFault.{ReadFault}
use Rattle.dead_letters.specs.declared.faults.ReadFault.TheVariants.{At}
use Rattle.dead_letters.specs.declared.faults.ReadFault.TheVariants.{Memory as OutOfMemory}

-- ---- the body of a letter, or how many bytes are left where it stops being one

-- a text behind its length, or the fault at its first byte
abbrev pub text_at : Reads (List ℕ)
text_at bytes = run_at bytes >>= λ x. (if is_utf8 x.0 then Ok x else Err (length bytes - 4))

-- the moment of so many seconds and nanoseconds, if it is one of the calendar
abbrev pub instant_of : ℤ → ℕ → Option ℤ
instant_of seconds nanos =
    if nat_lt nanos 1000000000 && is_moment (seconds *ℤ pos 1000000000 +ℤ pos nanos)
    then Some (seconds *ℤ pos 1000000000 +ℤ pos nanos)
    else None

abbrev pub instant_in : List ℕ → Option ℤ
instant_in bytes = instant_of (cast_signed w64 (big_number 8 bytes)) (big_number 4 (drop 8 bytes))

-- what was found, or the fault with so many bytes left
abbrev pub found_or : {X : Type 0} → ℕ → Option X → Result X ℕ
found_or left None = Err left
found_or left (Some x) = Ok x

-- a moment, or the fault at its first byte
abbrev pub moment_at : Reads ℤ
moment_at bytes = front_at 12 bytes >>= λ x. (found_or (length bytes) (instant_in x.0) >>= λ t. Ok (t, x.1))

unfoldable pub letter_at : List ℕ → Result DeadLetter ℕ
letter_at bytes =
    text_at bytes >>= λ kind. (text_at kind.1 >>= λ id. (text_at id.1 >>= λ reason. (moment_at reason.1 >>= λ moment.
    (short_event_at moment.1 >>= λ event. Ok (letter kind.0 id.0 reason.0 moment.0 event)))))

-- ---- the records of a segment

abbrev pub fault : ℕ → ℕ → ℕ → RecordFault
fault place found expected = record { place = place; found = found; expected = expected }

-- the length of a body; that of one whose length is cut counts as 0
unfoldable pub body_length : List ℕ → ℕ
body_length bytes = if nat_lt (length bytes) 4 then 0 else big_number 4 bytes

-- the CRC-32 that stands behind a body of n bytes, and the one that ought to
unfoldable pub stored_crc : ℕ → List ℕ → ℕ
stored_crc n bytes = big_number 4 (drop (n + 4) bytes)

unfoldable pub computed_crc : ℕ → List ℕ → ℕ
computed_crc n bytes = crc32 (take (n + 4) bytes)

-- A body of n bytes at a place that fits no letter: the place in the body, and the length of the body, or one more where these are equal.
abbrev pub misfit : ℕ → ℕ → ℕ → RecordFault
misfit place n left = if left == 0 then fault place n (n + 1) else fault place (n - left) n

abbrev pub letter_or : ℕ → ℕ → Result DeadLetter ℕ → Result DeadLetter RecordFault
letter_or place n (Ok l) = Ok l
letter_or place n (Err left) = Err (misfit place n left)

-- The letter of the record that begins these bytes, which stand at a place of a segment of so many: damaged where the record leaves the
-- segment, where its CRC-32 is another, or where its body fits no letter.
unfoldable pub record_at : ℕ → ℕ → List ℕ → Result DeadLetter RecordFault
record_at place total bytes =
    let n = body_length bytes in
    if nat_lt (length bytes) (n + 8) then Err (fault place (place + (n + 8)) total)
    else (if stored_crc n bytes == computed_crc n bytes then letter_or place n (letter_at (take n (drop 4 bytes)))
    else Err (fault place (stored_crc n bytes) (computed_crc n bytes)))

abbrev pub with_letter : DeadLetter → Result (List DeadLetter) RecordFault → Result (List DeadLetter) RecordFault
with_letter l (Ok ls) = Ok (l ∷ ls)
with_letter l (Err f) = Err f

abbrev pub letter_then : Result DeadLetter RecordFault → Result (List DeadLetter) RecordFault → Result (List DeadLetter) RecordFault
letter_then (Ok l) rest = with_letter l rest
letter_then (Err f) rest = Err f

-- one record behind the other, so many at most
abbrev pub records_from : ℕ → ℕ → List ℕ → Result (List DeadLetter) RecordFault
records_from zero total bytes = Ok []
records_from (suc most) total [] = Ok []
records_from (suc most) total (b ∷ bytes) =
    letter_then (record_at (total - length (b ∷ bytes)) total (b ∷ bytes)) (records_from most total (drop (body_length (b ∷ bytes) + 8) (b ∷ bytes)))

-- the letters of a segment; each record has a byte at least
unfoldable pub records_in : List ℕ → Result (List DeadLetter) RecordFault
records_in bytes = records_from (length bytes) (length bytes) bytes

-- ---- what is answered

-- the fault is this one, unless memory ran out
abbrev pub FaultAs : {Y : Type 0} → ReadFault → Result Y RecordFault → Type 0
FaultAs OutOfMemory read = ⊤
FaultAs (At f) read = read ≡ Err f

-- what was read is what reading gives, unless memory ran out
abbrev pub Told : {X Y : Type 0} → (X → Y) → Result X ReadFault → Result Y RecordFault → Type 0
Told view (Ok x) read = read ≡ Ok (view x)
Told view (Err f) read = FaultAs f read

-- ---- laws

-- the records of letters are read as these
abbrev pub RecordsAreReadBack : Type 0
RecordsAreReadBack = (letters : List DeadLetter) → AreLetters letters → records_in (segment_bytes letters) ≡ Ok letters

-- what is read of bytes is letters, of which they are the records
abbrev pub RecordsAreSpelled : Type 0
RecordsAreSpelled = (bytes : List ℕ) (letters : List DeadLetter) → IsBytes bytes → records_in bytes ≡ Ok letters → AreLetters letters × (bytes ≡ segment_bytes letters)
