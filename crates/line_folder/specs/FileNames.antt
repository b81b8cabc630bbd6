-- To which part of a pipeline a file belongs, by its name.
use Rattle.std.specs.Prelude.{◌≡◌, ◌==◌, ◌||◌, ℕ, Bool, List, ◌++◌, length, take, drop, get_or, bytes_eq, if◌then◌else◌}
use Rattle.slot_files.specs.Names.{position_name}
use Rattle.slot_files.specs.declared.name.PositionOf.TheVariants.{Input}
use Rattle.dead_letters.specs.Views.{IsOwn as IsOfLetters}
use Rattle.queue_files.specs.Folders.{IsOwn as IsOfQueue, names_in}
use Rattle.line_outputs.specs.OpenFiles.{IsOutside, slot_in}

-- the pages and checkpoints of the queue, the dead letters, the positions of output files and those of inputs; another file of the folder; and a file outside of it
pub data FilePart : Type 0 where
  of_queue : FilePart
  of_letters : FilePart
  of_outputs : FilePart
  of_inputs : FilePart
  of_none : FilePart
  of_outside : FilePart

-- in the folder: `c` and `p`, `d`, `o`, and `i`
abbrev pub part_by : ℕ → FilePart
part_by byte = if (byte == 99) || (byte == 112) then of_queue else if byte == 100 then of_letters else if byte == 111 then of_outputs else if byte == 105 then of_inputs else of_none

-- by the byte behind the path of the folder, which ends with a slash
abbrev pub part_named : List ℕ → List ℕ → FilePart
part_named folder name = if bytes_eq (take (length folder) name) folder then part_by (get_or (drop (length folder) name) 0 0) else of_outside

-- the position file of an input that reads a path
abbrev pub input_slot : List ℕ → List ℕ → List ℕ
input_slot folder path = folder ++ position_name Input path

-- ---- tests of names

abbrev pub part_number : FilePart → ℕ
part_number of_queue = 0
part_number of_letters = 1
part_number of_outputs = 2
part_number of_inputs = 3
part_number of_none = 4
part_number of_outside = 5

-- a file of parts for which a test holds
abbrev pub in_parts : (FilePart → Bool) → List ℕ → List ℕ → Bool
in_parts parts folder name = parts (part_named folder name)

-- a file that belongs to this part
abbrev pub belongs : FilePart → List ℕ → List ℕ → Bool
belongs part folder name = part_number (part_named folder name) == part_number part

-- a file that a delivery changes
abbrev pub is_delivered_to : List ℕ → List ℕ → Bool
is_delivered_to folder name = belongs of_outside folder name || belongs of_outputs folder name

-- ---- laws

-- each file belongs to its part, so that no two of them have a name in common
pub record NamesTellParts : Type 0 where
  pub queue : (folder name : List ℕ) → IsOfQueue (names_in folder) name → part_named folder name ≡ of_queue
  pub letters : (folder name : List ℕ) → IsOfLetters folder name → part_named folder name ≡ of_letters
  pub outputs : (folder path : List ℕ) → part_named folder (slot_in folder path) ≡ of_outputs
  pub inputs : (folder path : List ℕ) → part_named folder (input_slot folder path) ≡ of_inputs
  pub outside : (folder path : List ℕ) → IsOutside folder path → part_named folder path ≡ of_outside
