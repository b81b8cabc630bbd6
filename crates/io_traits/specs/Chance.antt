-- The premise that a stop leaves no frame that matches its checksum by chance.
use Rattle.std.specs.Prelude.{◌≡◌, ◌⊎◌, ◌≤◌, ℕ, ◌-◌, List, length, take, drop}
use Rattle.io_traits.specs.Reads.{bytes_of}
use Rattle.io_traits.specs.Images.{FileImage, Among}

-- n bytes at a place
abbrev pub part : ℕ → ℕ → List ℕ → List ℕ
part place n bytes = take n (drop place bytes)

-- these bytes stand at the place
abbrev pub StandsAt : ℕ → List ℕ → List ℕ → Type 0
StandsAt place frame bytes = part place (length frame) bytes ≡ frame

-- these bytes, whole, stood at the place at the last sync, or were written there since
abbrev pub WasThere : ℕ → List ℕ → FileImage → Type 0
WasThere place frame f = StandsAt place frame (bytes_of f.settled) ⊎ ((w : ℕ × List ℕ) × Among f.writes w × (w.0 ≤ place) × StandsAt (place - w.0) frame w.1)

-- no frame of this kind stands in the file by chance: each was there at the last sync, or was written there since
pub record NoChance (IsFrame : ℕ → List ℕ → Type 0) (f : FileImage) : Type 0 where
  pub each : (place : ℕ) (frame : List ℕ) → IsFrame place frame → StandsAt place frame (bytes_of f.file) → WasThere place frame f
