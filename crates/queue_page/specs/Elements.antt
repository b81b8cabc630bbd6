-- An element of a page: the first of its faults, or the row that it holds. The bytes are those that are left of an extent, from the place of the
-- element on.
use Rattle.std.specs.Prelude.{ℕ, ◌+◌, ◌-◌, ◌%◌, ◌^◌, ◌==◌, ◌&&◌, nat_lt, Bool, List, length, take, drop, if◌then◌else◌, Result, Ok, Err}
use Rattle.byteorder.specs.Endian.{big_number}
use Rattle.crc_frame.specs.Crc.{crc32}
use Rattle.event_tree.specs.Events.{Ev}
use Rattle.element_code.specs.declared.row.Origin.{Origin}
use Rattle.queue_page.specs.Bodies.{body_at}
use Rattle.queue_page.specs.declared.fault.Mismatch.{Mismatch}
use Rattle.queue_page.specs.declared.row.PageRow.{PageRow}

-- ---- its parts

-- its number; one that is cut counts as 0
unfoldable pub number_of : List ℕ → ℕ
number_of bytes = if nat_lt (length bytes) 8 then 0 else big_number 8 bytes

-- the length of its body; one that is cut counts as 0
unfoldable pub size_of : List ℕ → ℕ
size_of bytes = if nat_lt (length bytes) 12 then 0 else big_number 4 (drop 8 bytes)

-- how many bytes it has as a whole
abbrev pub total_of : List ℕ → ℕ
total_of bytes = size_of bytes + 16

-- of the bytes of the whole: the body, the CRC-32 that is stored, and the one that is computed
abbrev pub body_of : List ℕ → List ℕ
body_of frame = drop 12 (take (length frame - 4) frame)

abbrev pub stored_crc : List ℕ → ℕ
stored_crc frame = big_number 4 (drop (length frame - 4) frame)

abbrev pub computed_crc : List ℕ → ℕ
computed_crc frame = crc32 (take (length frame - 4) frame)

-- a whole of some length, whose checksum matches
abbrev pub is_element : ℕ → List ℕ → Bool
is_element place bytes = (length bytes == total_of bytes) && (stored_crc bytes == computed_crc bytes)

-- ---- its faults, one behind the other

abbrev pub misfit : ℕ → ℕ → ℕ → Mismatch
misfit place found expected = record { place = place; found = found; expected = expected }

abbrev pub and_then : {A B E : Type 0} → Result A E → (A → Result B E) → Result B E
and_then (Ok x) f = f x
and_then (Err e) f = Err e

-- Its number is the next one, and it ends within the so many bytes that are left: how many it has. An end has 64 bits.
unfoldable pub head_at : ℕ → ℕ → ℕ → List ℕ → Result ℕ Mismatch
head_at number place left bytes =
    if number_of bytes == number then (if nat_lt left (total_of bytes) then Err (misfit place ((place + total_of bytes) % 2 ^ 64) (place + left)) else Ok (total_of bytes))
    else Err (misfit place (number_of bytes) number)

-- a body of so many bytes that stops being one at a place within it, or at its end
abbrev pub body_misfit : ℕ → ℕ → ℕ → Mismatch
body_misfit place len at = misfit place at (if at == len then len + 1 else len)

abbrev pub row_by : ℕ → ℕ → List ℕ → Result (Origin × Ev) ℕ → Result PageRow Mismatch
row_by number place frame (Ok said) = Ok (record { number = number; origin = said.0; event = said.1; next = place + length frame })
row_by number place frame (Err left) = Err (body_misfit place (length (body_of frame)) (length (body_of frame) - left))

-- its checksum matches, and its body says a row
unfoldable pub frame_at : ℕ → ℕ → ℕ → List ℕ → Result PageRow Mismatch
frame_at version number place frame =
    if stored_crc frame == computed_crc frame then row_by number place frame (body_at version (body_of frame)) else Err (misfit place (stored_crc frame) (computed_crc frame))

-- the row of this number at the front of these bytes, or the element's first fault
unfoldable pub element_at : ℕ → ℕ → ℕ → List ℕ → Result PageRow Mismatch
element_at version number place bytes = and_then (head_at number place (length bytes) bytes) (λ total. frame_at version number place (take total bytes))

-- the place behind the row that was read
abbrev pub next_of : Result PageRow Mismatch → Result ℕ Mismatch
next_of read = and_then read (λ row. Ok row.next)
