-- The recorded positions of files that inputs watch.
use Rattle.std.specs.Prelude.{◌≡◌, ◌≤◌, ℕ, true, List, length, map, flat_map, take, drop}
use Rattle.io_traits.specs.Folders.{Content}
use Rattle.io_traits.specs.Reads.{bytes_of}
use Rattle.io_traits.specs.Images.{Image}
use Rattle.config_tree.specs.declared.tree.Plugin.{Plugin}
use Rattle.event_flow.specs.Meaning.{Makes}
use Rattle.in_lines.specs.Polls.{Poll, joined, is_ended}
use Rattle.slot_files.specs.Positions.{recorded_in}
use Rattle.slot_files.specs.declared.recorded.Recorded.{Recorded}
use Rattle.slot_files.specs.declared.recorded.Recorded.TheVariants.{Nothing, Position, Damaged}
use Rattle.history_book.specs.Entries.{Entry}
use Rattle.history_book.specs.Inputs.{Input, IsInput}
use Rattle.history_book.specs.Links.{Listening, IsSettledRow}
use Rattle.history_book.specs.Lists.{IsIn, Differ}
use Rattle.history_book.specs.Sources.{Watched, SourceLook, Sources}
use Rattle.history_book.specs.States.{Written}

-- A file that a pipeline watches: its path, the name of its position file, and the base position, where the first reading began that left a recorded one.
pub record WatchedFile : Type 0 where
  pub path : List ℕ
  pub slot : List ℕ
  pub base : ℕ

-- the recorded position: where nothing is recorded the base, and none where the position file is damaged
abbrev pub IsPosition : ℕ → Recorded → ℕ → Type 0
IsPosition base Nothing position = position ≡ base
IsPosition base (Position turn recorded) position = position ≡ recorded
IsPosition base (Damaged found expected) position = ⊥

-- bytes that were read, and the rows that were made of them
pub record Reading : Type 0 where
  pub piece : List ℕ
  pub rows : List Written

abbrev pub look_at : List ℕ → Poll → SourceLook
look_at path poll = record { source = Watched path; poll = poll }

-- the row came by an input with this statement
abbrev pub CameBy : Plugin → Written → Type 0
CameBy p w = (x : Input) × IsInput w.under w.input x × (x.statement ≡ p)

module _ (listening : Listening) (sources : Sources) where
  -- The piece of the file of this path, read to its end by itself, gives these rows, one for each of its lines: all of them came by inputs of one statement, which
  -- watches the file.
  pub record IsRead (path : List ℕ) (r : Reading) : Type 0 where
    pub statement : Plugin
    pub watches : sources.watches statement path ≡ true
    pub polls : List Poll
    pub bytes : joined polls ≡ r.piece
    pub ended : is_ended polls ≡ true
    pub events : map (λ (w : Written). w.event) r.rows ≡ map (listening.applies statement) (sources.gives statement (map (λ (p : Poll). look_at path p) polls))
    pub came : (w : Written) → IsIn w r.rows → CameBy statement w

  module _ (makes : Makes) (told : List Entry) where
    -- The position file isn't damaged. The position is the base or stands behind it, and the bytes between the two can be cut into pieces, of which each line is a settled
    -- row of its own.
    pub record PositionSound (content : Content) (i : Image) (file : WatchedFile) : Type 0 where
      pub position : ℕ
      pub recorded : IsPosition file.base (recorded_in (bytes_of (i file.slot).file)) position
      pub behind : file.base ≤ position
      pub within : position ≤ length (bytes_of (content file.path))
      pub readings : List Reading
      pub cut : flat_map (λ (r : Reading). r.piece) readings ≡ drop file.base (take position (bytes_of (content file.path)))
      pub read : (r : Reading) → IsIn r readings → IsRead file.path r
      pub settled : (r : Reading) → IsIn r readings → (w : Written) → IsIn w r.rows → IsSettledRow makes told w
      pub differ : Differ (map (λ (w : Written). w.number) (flat_map (λ (r : Reading). r.rows) readings))
