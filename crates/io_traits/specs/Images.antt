-- What a stop may leave of a store's files, and how each call changes that.
use Rattle.std.specs.Prelude.{◌≡◌, ◌≢◌, ◌⊎◌, ◌≤◌, ℕ, ◌+◌, min, max, List, [], ◌∷◌, ◌++◌, length, take, drop, Option, None, IsSome, is_some}
use Rattle.io_traits.specs.Folders.{Content}
use Rattle.io_traits.specs.Reads.{bytes_of, file_length}

-- one file, as a stop may leave it, with what it came from
pub record FileImage : Type 0 where
  pub file : Option (List ℕ)
  -- what stood there at the last sync
  pub settled : Option (List ℕ)
  -- what was written since, each with its place, the newest first
  pub writes : List (ℕ × List ℕ)

-- all files, as a stop may leave them
abbrev pub Image : Type 0
Image = List ℕ → FileImage

-- a file of which nothing is unsettled
abbrev pub at_rest : Option (List ℕ) → FileImage
at_rest f = record { file = f; settled = f; writes = [] }

-- each file is at rest, as reads give it
abbrev pub IsAtRest : Content → Image → Type 0
IsAtRest content i = (name : List ℕ) → i name ≡ at_rest (content name)

-- bytes with others laid over them from a place on
abbrev pub overlaid : ℕ → List ℕ → List ℕ → List ℕ
overlaid at bytes old = take at old ++ bytes ++ drop (at + length bytes) old

-- one of the writes
abbrev pub Among : List (ℕ × List ℕ) → ℕ × List ℕ → Type 0
Among [] w = ⊥
Among (v ∷ writes) w = Among writes w ⊎ (w ≡ v)

-- after a write of n bytes that a stop cuts short: any bytes in its range and past the old end, the same elsewhere
pub record Torn (at n : ℕ) (old new : List ℕ) : Type 0 where
  pub no_shorter : length old ≤ length new
  pub no_longer : length new ≤ max (length old) (at + n)
  pub before : take (min at (length old)) new ≡ take (min at (length old)) old
  pub after : drop (at + n) new ≡ drop (at + n) old

-- a file after a write: one that stands stays, and one that is made may be missing
pub record TornFile (at : ℕ) (bytes : List ℕ) (old new : FileImage) : Type 0 where
  pub torn : Torn at (length bytes) (bytes_of old.file) (bytes_of new.file)
  pub stays : IsSome old.file → IsSome new.file
  pub settled : new.settled ≡ old.settled
  pub writes : (w : ℕ × List ℕ) → Among new.writes w → Among old.writes w ⊎ (w ≡ (at, bytes))

-- a file after a cut: its front, and behind it any bytes, no further than the old end
pub record CutFile (n : ℕ) (old new : FileImage) : Type 0 where
  pub no_shorter : min n (file_length old.file) ≤ file_length new.file
  pub no_longer : file_length new.file ≤ file_length old.file
  pub front : take n (bytes_of new.file) ≡ take n (bytes_of old.file)
  pub stays : is_some new.file ≡ is_some old.file
  pub settled : new.settled ≡ old.settled
  pub writes : new.writes ≡ old.writes

-- a file after a removal: gone, or still there
pub record RemovedFile (old new : FileImage) : Type 0 where
  pub gone : (new.file ≡ None) ⊎ (new.file ≡ old.file)
  pub settled : new.settled ≡ old.settled
  pub writes : new.writes ≡ old.writes

-- a step of one file, beside which all others stay
pub record On (name : List ℕ) (step : FileImage → FileImage → Type 0) (old new : Image) : Type 0 where
  pub here : step (old name) (new name)
  pub there : (other : List ℕ) → other ≢ name → new other ≡ old other

-- each new image is an old one after a step
abbrev pub Follows : (Image → Image → Type 0) → (Image → Type 0) → (Image → Type 0) → Type 0
Follows step old new = (i : Image) → new i → (d : Image) × old d × step d i

-- other files read as before
abbrev pub Beside : List ℕ → Content → Content → Type 0
Beside name old new = (other : List ℕ) → other ≢ name → new other ≡ old other
