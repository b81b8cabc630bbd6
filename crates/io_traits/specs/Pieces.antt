-- What the reads of a source give.
use Rattle.std.specs.Prelude.{ℕ, List, [], ◌∷◌, Result, Ok, Err, take}
use Rattle.io_traits.specs.declared.faults.Failed.{Failed}
use Rattle.io_traits.specs.declared.sources.Step.{Step}
use Rattle.io_traits.specs.declared.sources.Step.TheVariants.{Bytes, NotYet}
use Rattle.io_traits.specs.declared.sources.Step.TheVariants.{End as AtEnd}

-- bytes came, or the end, or nothing: not yet, or a fault
pub data Piece : Type 0 where
  Came : List ℕ → Piece
  End : Piece
  Nothing : Piece

-- the bytes of a piece
abbrev pub bytes_in : Piece → List ℕ
bytes_in (Came bytes) = bytes
bytes_in End = []
bytes_in Nothing = []

-- a piece as the source tells it: nothing is no piece
abbrev pub piece_list : Piece → List Piece
piece_list (Came bytes) = Came bytes ∷ []
piece_list End = End ∷ []
piece_list Nothing = []

-- what a read gave, by its answer and what stands in the room after it
abbrev pub gave : Result Step Failed → List ℕ → Piece
gave (Ok (Bytes n)) room = Came (take n room)
gave (Ok NotYet) room = Nothing
gave (Ok AtEnd) room = End
gave (Err e) room = Nothing

-- a fact for the number of bytes, where bytes came
abbrev pub IfBytes : Result Step Failed → (ℕ → Type 0) → Type 0
IfBytes (Ok (Bytes n)) P = P n
IfBytes (Ok NotYet) P = Unit {0}
IfBytes (Ok AtEnd) P = Unit {0}
IfBytes (Err e) P = Unit {0}
