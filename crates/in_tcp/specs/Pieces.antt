-- Pieces that were read and not cut into lines yet, as they stand behind one another in one buffer.
use Rattle.std.specs.Prelude.{◌≡◌, ℕ, ◌+◌, ◌-◌, Bool, true, false, Option, Some, None, List, [], ◌∷◌, length, take, drop}
use Rattle.io_traits.specs.Pieces.{Piece, Came, End, Nothing, bytes_in}
use Rattle.io_traits.specs.declared.sources.Step.{Step}
use Rattle.io_traits.specs.declared.sources.Step.TheVariants.{NotYet}
use Rattle.io_traits.specs.declared.sources.Step.TheVariants.{Bytes as StepBytes, End as StepEnd}
use Rattle.in_lines.specs.Sources.{Look}
use Rattle.in_tcp.specs.declared.pieces.PieceRecord.{PieceRecord}
use Rattle.in_tcp.specs.declared.pieces.ReadEvent.{ReadEvent}
use Rattle.in_tcp.specs.declared.pieces.ReadEvent.TheVariants.{Bytes}
use Rattle.in_tcp.specs.declared.pieces.ReadEvent.TheVariants.{End as AtEnd}

-- how many bytes a mark has
abbrev pub count_of : ReadEvent → ℕ
count_of (Bytes n) = n
count_of AtEnd = 0

abbrev pub is_end : ReadEvent → Bool
is_end (Bytes n) = false
is_end AtEnd = true

-- what a read with this answer gave, if it gave something
abbrev pub gave_in : Step → Option ReadEvent
gave_in (StepBytes n) = Some (Bytes n)
gave_in StepEnd = Some AtEnd
gave_in NotYet = None

-- its piece, of these bytes
abbrev pub piece_with : ReadEvent → List ℕ → Piece
piece_with (Bytes n) bytes = Came bytes
piece_with AtEnd bytes = End

abbrev pub look_with : PieceRecord → List ℕ → Look
look_with m bytes = (m.conn, record { moment = m.moment; piece = piece_with m.gave bytes })

-- the looks that some marks have, of the bytes that stand behind one another
abbrev pub looks_in : List ℕ → List PieceRecord → List Look
looks_in bytes [] = []
looks_in bytes (m ∷ marks) = look_with m (take (count_of m.gave) bytes) ∷ looks_in (drop (count_of m.gave) bytes) marks

-- how many bytes they have
abbrev pub total_of : List PieceRecord → ℕ
total_of [] = 0
total_of (m ∷ marks) = count_of m.gave + total_of marks

-- the bytes of the first look
abbrev pub front_bytes : List Look → List ℕ
front_bytes [] = []
front_bytes (look ∷ looks) = bytes_in look.1.piece

-- the first look has this mark
pub record IsFront (looks : List Look) (m : PieceRecord) : Type 0 where
  pub is : looks ≡ look_with m (front_bytes looks) ∷ drop 1 looks
  pub long : length (front_bytes looks) ≡ count_of m.gave

-- a mark with so many bytes less
abbrev pub gave_less : ℕ → ReadEvent → ReadEvent
gave_less k (Bytes n) = Bytes (n - k)
gave_less k AtEnd = AtEnd

-- a piece without so many bytes in front
abbrev pub piece_less : ℕ → Piece → Piece
piece_less k (Came bytes) = Came (drop k bytes)
piece_less k End = End
piece_less k Nothing = Nothing

abbrev pub look_less : ℕ → Look → Look
look_less k look = (look.0, record { moment = look.1.moment; piece = piece_less k look.1.piece })

-- the looks, the first without so many bytes in front
abbrev pub front_less : ℕ → List Look → List Look
front_less k [] = []
front_less k (look ∷ looks) = look_less k look ∷ looks
