-- What an output file with its position file holds: its bytes up to the recorded position.
use Rattle.std.specs.Prelude.{◌≡◌, ◌⊎◌, ◌≢◌, ℕ, nat_lt, List, length, take, Result, Ok, Err, if◌then◌else◌}
use Rattle.io_traits.specs.Folders.{Content}
use Rattle.io_traits.specs.Reads.{bytes_of, file_length}
use Rattle.io_traits.specs.Images.{Image}
use Rattle.io_traits.specs.declared.queue_faults.Damage.{Damage}
use Rattle.slot_files.specs.Positions.{recorded_in}
use Rattle.slot_files.specs.declared.recorded.Recorded.{Recorded}
use Rattle.slot_files.specs.declared.recorded.Recorded.TheVariants.{Nothing, Position, Damaged}

-- ---- how much of a file counts

abbrev pub damage : List ℕ → ℕ → ℕ → ℕ → Damage
damage file place found expected = record { file = file; place = place; found = found; expected = expected }

-- By what is recorded: all of it where nothing is. A file that ends before its recorded position is damaged at its end, and a damaged position file at 0.
abbrev pub counted_by : List ℕ → List ℕ → ℕ → Recorded → Result ℕ Damage
counted_by path slot len Nothing = Ok len
counted_by path slot len (Position turn position) = if nat_lt len position then Err (damage path len len position) else Ok position
counted_by path slot len (Damaged found expected) = Err (damage slot 0 found expected)

-- of the file of a path with the position file of another name
abbrev pub counted_in : List ℕ → List ℕ → Content → Result ℕ Damage
counted_in path slot content = counted_by path slot (file_length (content path)) (recorded_in (bytes_of (content slot)))

-- ---- what a stop leaves

-- each file as a stop leaves it
abbrev pub left_in : Image → Content
left_in i name = (i name).file

-- the position file records a position up to which the file has this content
pub record Stands (path slot bytes : List ℕ) (i : Image) : Type 0 where
  pub turn : ℕ
  pub recorded : recorded_in (bytes_of (left_in i slot)) ≡ Position turn (length bytes)
  pub front : take (length bytes) (bytes_of (left_in i path)) ≡ bytes

-- nothing is recorded, and this is all of the file
pub record IsBase (path slot bytes : List ℕ) (i : Image) : Type 0 where
  pub nothing : recorded_in (bytes_of (left_in i slot)) ≡ Nothing
  pub whole : bytes_of (left_in i path) ≡ bytes

-- the file, cut at its recorded position, has this content
abbrev pub Holds : List ℕ → List ℕ → List ℕ → Image → Type 0
Holds path slot bytes i = Stands path slot bytes i ⊎ IsBase path slot bytes i

-- ---- laws

-- so many bytes of such a file count, and it isn't damaged
abbrev pub HeldIsCounted : Type 0
HeldIsCounted = (path slot bytes : List ℕ) (i : Image) → Holds path slot bytes i → counted_in path slot (left_in i) ≡ Ok (length bytes)

-- a file holds one content
abbrev pub HoldsOne : Type 0
HoldsOne = (path slot one other : List ℕ) (i : Image) → Holds path slot one i → Holds path slot other i → one ≡ other

-- where a file is damaged, what was found differs from what was expected
abbrev pub DamagesDiffer : Type 0
DamagesDiffer = (path slot : List ℕ) (content : Content) (d : Damage) → counted_in path slot content ≡ Err d → d.found ≢ d.expected
