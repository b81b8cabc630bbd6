-- The frame in which an element stands in a page of the queue. All numbers are big endian.
use Rattle.std.specs.Prelude.{◌≡◌, ℕ, ◌+◌, ◌^◌, ◌<◌, List, ◌++◌, length, take, drop, Option, Some, None, nat_eq, if◌then◌else◌}
use Rattle.std.specs.List.{starts_with}
use Rattle.byteorder.specs.Endian.{big_bytes, big_number}
use Rattle.crc_frame.specs.Crc.{crc32}
use Rattle.crc_frame.specs.declared.unframing.Frame.{Frame}

-- what a frame holds
pub record Element : Type 0 where
  pub number : ℕ
  pub body : List ℕ

-- what its CRC-32 covers: the number in 8 bytes, the length of the body in 4, and the body
unfoldable pub covered : ℕ → List ℕ → List ℕ
covered number body = big_bytes 8 number ++ big_bytes 4 (length body) ++ body

-- the frame of an element: what is covered, and the CRC-32 of that in 4 bytes
unfoldable pub frame_of : ℕ → List ℕ → List ℕ
frame_of number body = covered number body ++ big_bytes 4 (crc32 (covered number body))

-- The element whose frame begins the bytes, if there is one. Its number and its length are read first,
-- and then the bytes have to begin with the frame that these make.
unfoldable pub unframed : List ℕ → Option Element
unframed bytes =
    let number = big_number 8 bytes in
    let body = take (big_number 4 (drop 8 bytes)) (drop 12 bytes) in
    if starts_with nat_eq bytes (frame_of number body) then Some (record { number = number; body = body }) else None

-- the element of a frame that was read
abbrev pub element_of : Frame → Element
element_of frame = record { number = frame.number; body = frame.body.now }

-- A frame is read back, whatever stands behind it.
abbrev pub FramesAreReadBack : Type 0
FramesAreReadBack =
    (number : ℕ) (body rest : List ℕ) → number < 2 ^ 64 → length body < 2 ^ 32
    → unframed (frame_of number body ++ rest) ≡ Some (record { number = number; body = body })

-- Bytes have one reading: where two frames begin them, these are of one element, and the same stands behind.
abbrev pub FramesDiffer : Type 0
FramesDiffer =
    (number other_number : ℕ) (body other_body rest other_rest : List ℕ) → number < 2 ^ 64 → length body < 2 ^ 32
    → other_number < 2 ^ 64 → length other_body < 2 ^ 32
    → frame_of number body ++ rest ≡ frame_of other_number other_body ++ other_rest
    → (number ≡ other_number) × (body ≡ other_body) × (rest ≡ other_rest)

-- What is read stands in front as its frame, which has 16 bytes more than the body.
abbrev pub FramesAreRead : Type 0
FramesAreRead = (bytes : List ℕ) (e : Element) → unframed bytes ≡ Some e → take (length e.body + 16) bytes ≡ frame_of e.number e.body

-- Reading goes by the bytes of the frame alone: it reads the same wherever they stand in front.
abbrev pub FramesAreReadAgain : Type 0
FramesAreReadAgain =
    (bytes other : List ℕ) (e : Element) → unframed bytes ≡ Some e → take (length e.body + 16) other ≡ take (length e.body + 16) bytes
    → unframed other ≡ Some e
