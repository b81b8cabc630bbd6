-- A store by the changes that were made to it: what reads give after them, and what a stop may leave. The moment is the number of steps.
use Rattle.std.specs.Prelude.{ℕ, ◌-◌, List, [], ◌∷◌, ◌++◌, length, take, drop, Option, Some, None, option_map, if◌then◌else◌}
use Rattle.plain_data.specs.Keys.{same_key}
use Rattle.io_traits.specs.Folders.{Content}
use Rattle.io_traits.specs.Reads.{bytes_of, file_length}
use Rattle.io_traits.specs.Images.{Image, IsAtRest, overlaid, TornFile, CutFile, RemovedFile, On}

pub data Step : Type 0 where
  appended : List ℕ → List ℕ → Step
  wrote : List ℕ → ℕ → List ℕ → Step
  shortened : List ℕ → ℕ → Step
  removed : List ℕ → Step
  synced : Step
  nothing : Step

-- what a step makes of the file of the name n
abbrev pub applied : Step → List ℕ → Option (List ℕ) → Option (List ℕ)
applied (appended name bytes) n f = if same_key name n then Some (bytes_of f ++ bytes) else f
applied (wrote name at bytes) n f = if same_key name n then Some (overlaid at bytes (bytes_of f)) else f
applied (shortened name len) n f = if same_key name n then option_map (take len) f else f
applied (removed name) n f = if same_key name n then None else f
applied synced n f = f
applied nothing n f = f

-- what reads give after these steps, of which the newest comes first
abbrev pub held : Content → List Step → Content
held base [] n = base n
held base (step ∷ earlier) n = applied step n (held base earlier n)

-- what a stop may leave after these steps
abbrev pub MayLeave : Content → List Step → Image → Type 0
MayLeave base [] i = IsAtRest base i
MayLeave base (appended name bytes ∷ earlier) i = (d : Image) × MayLeave base earlier d × On name (TornFile (file_length (held base earlier name)) bytes) d i
MayLeave base (wrote name at bytes ∷ earlier) i = (d : Image) × MayLeave base earlier d × On name (TornFile at bytes) d i
MayLeave base (shortened name len ∷ earlier) i = (d : Image) × MayLeave base earlier d × On name (CutFile len) d i
MayLeave base (removed name ∷ earlier) i = (d : Image) × MayLeave base earlier d × On name RemovedFile d i
MayLeave base (synced ∷ earlier) i = IsAtRest (held base earlier) i
MayLeave base (nothing ∷ earlier) i = MayLeave base earlier i

-- the first t of the steps
abbrev pub first_steps : ℕ → List Step → List Step
first_steps t steps = drop (length steps - t) steps

-- what a stop might have left at a moment
abbrev pub LeavesAt : Content → List Step → ℕ → Image → Type 0
LeavesAt base steps t i = MayLeave base (first_steps t steps) i
