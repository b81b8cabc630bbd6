-- What a read of a file gives.
use Rattle.std.specs.Prelude.{◌≡◌, ℕ, List, [], length, take, drop, Option, Some, None}

-- a missing file gives no bytes
abbrev pub bytes_of : Option (List ℕ) → List ℕ
bytes_of None = []
bytes_of (Some bytes) = bytes

abbrev pub file_length : Option (List ℕ) → ℕ
file_length file = length (bytes_of file)

-- so many bytes came into a room of this size: those of the file from a place on, as many as stand there
pub record Gives (file : Option (List ℕ)) (at room n : ℕ) (into : List ℕ) : Type 0 where
  pub count : n ≡ length (take room (drop at (bytes_of file)))
  pub bytes : take n into ≡ take room (drop at (bytes_of file))

-- so many bytes came into this room
abbrev pub GivesInto : Option (List ℕ) → ℕ → List ℕ → List ℕ → ℕ → Type 0
GivesInto file at room into n = Gives file at (length room) n into
