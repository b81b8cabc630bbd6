-- What a source in memory holds, and what its reads do.
use Rattle.std.specs.Prelude.{ℕ, min, List, [], ◌∷◌, ◌++◌, Result, Ok, Err, length, take, drop}
use Rattle.io_traits.specs.Pieces.{Piece, Came, End}
use Rattle.io_traits.specs.declared.faults.Failed.{Failed}
use Rattle.io_traits.specs.declared.sources.Step.{Step}
use Rattle.io_traits.specs.declared.sources.Step.TheVariants.{Bytes, NotYet}
use Rattle.io_traits.specs.declared.sources.Step.TheVariants.{End as AtEnd}
use Rattle.io_memory.specs.Scripts.{Course, worked, failed, waited}

-- the pieces that it gave, the bytes that are left, how many of them a read gives at most, and its script
pub record Reading : Type 0 where
  pub given : List Piece
  pub left : List ℕ
  pub most : ℕ
  pub script : Course

-- how many bytes the next read gives into a room of so many bytes, if it gives bytes
abbrev pub next_count : Reading → ℕ → ℕ
next_count r room = min (min room r.most) (length r.left)

-- the bytes that a read took, by its answer: the next ones of those that are left
abbrev pub bytes_taken : Reading → Result Step Failed → List ℕ
bytes_taken r (Ok (Bytes n)) = take n r.left
bytes_taken r (Ok NotYet) = []
bytes_taken r (Ok AtEnd) = []
bytes_taken r (Err e) = []

-- what a source holds after a read, by the answer of that read
abbrev pub after_read : Reading → Result Step Failed → Reading
after_read r (Ok (Bytes n)) = record r { given = r.given ++ Came (take n r.left) ∷ []; left = drop n r.left; script = worked r.script }
after_read r (Ok NotYet) = record r { script = waited r.script }
after_read r (Ok AtEnd) = record r { given = r.given ++ End ∷ []; script = worked r.script }
after_read r (Err e) = record r { script = failed r.script }

-- the bytes stand at the front of a room, and the rest of it is as it was
abbrev pub written_over : List ℕ → List ℕ → List ℕ
written_over bytes room = bytes ++ drop (length bytes) room
