-- Where the reading of a watched file begins, and how an input stands that was opened.
use Rattle.std.specs.Prelude.{◌≡◌, ◌≢◌, ℕ, zero, false, ◌||◌, nat_lt, IsTrue, List, [], if◌then◌else◌, pos}
use Rattle.io_traits.specs.Reads.{bytes_of, file_length}
use Rattle.io_traits.specs.declared.files.Files.{Ghosts as FilesWords}
use Rattle.byte_lines.specs.Unread.{unread}
use Rattle.crc_frame.specs.Slots.{next_turn}
use Rattle.io_traits.specs.declared.stores.Store.{Ghosts as StoreWords}
use Rattle.io_traits.specs.declared.queue_faults.Damage.{Damage}
use Rattle.slot_files.specs.Positions.{recorded_in}
use Rattle.slot_files.specs.declared.recorded.Recorded.{Recorded}
use Rattle.slot_files.specs.declared.recorded.Recorded.TheVariants.{Nothing, Position, Damaged}
use Rattle.in_file.specs.Looks.{HasRead}
use Rattle.in_file.specs.Views.{Watched}
use Rattle.in_file.specs.declared.plan.FilePlan.{FilePlan}

-- how many bytes a line has at most
abbrev pub line_limit : ℕ
line_limit = 1048576

-- Where a reading begins, by what is recorded and how long the file is. A file that ends before its recorded position is read from its beginning.
abbrev pub begins_at : FilePlan → ℕ → Recorded → ℕ
begins_at plan len Nothing = if plan.ends || plan.from_start then zero else len
begins_at plan len (Position turn position) = if nat_lt len position then zero else position
begins_at plan len (Damaged found expected) = zero

-- the recorded position, and where none is that at which the reading began
abbrev pub position_by : ℕ → Recorded → ℕ
position_by began Nothing = began
position_by began (Position turn position) = position
position_by began (Damaged found expected) = began

-- the turn of the slot that is written next
abbrev pub turn_by : Recorded → ℕ
turn_by Nothing = zero
turn_by (Position turn position) = next_turn turn
turn_by (Damaged found expected) = zero

-- what is recorded isn't damaged
abbrev pub IsWhole : Recorded → Type 0
IsWhole Nothing = Unit {0}
IsWhole (Position turn position) = Unit {0}
IsWhole (Damaged found expected) = ⊥

-- an input of which a file has so many bytes, and of which this is recorded
abbrev pub opened : List ℕ → List ℕ → FilePlan → ℕ → Recorded → Watched
opened path slot plan len recorded = record {
  path = path;
  slot = slot;
  ends = plan.ends;
  codec = plan.codec;
  began = begins_at plan len recorded;
  behind = begins_at plan len recorded;
  unread = unread line_limit [] false;
  moment = pos 0;
  position = position_by (begins_at plan len recorded) recorded;
  turn = turn_by recorded;
}

module _ {F : Type 0} (files : FilesWords F) (path slot : List ℕ) (plan : FilePlan) (f : F) where
  -- an input that begins to read, by what is recorded, and what the files told
  pub record IsBegun (recorded : Recorded) (w : Watched) : Type 0 where
    pub len : ℕ
    pub is : w ≡ opened path slot plan len recorded
    pub told : IsTrue files.tells → len ≡ file_length (files.shows f (files.calls f) path)

module _ {S F : Type 0} (store : StoreWords S) (files : FilesWords F) (path slot : List ℕ) (plan : FilePlan) (s : S) (f : F) where
  -- an input that was opened, by what the store and the files told then
  pub record IsOpened (w : Watched) : Type 0 where
    pub recorded : Recorded
    pub told : IsTrue store.tells → recorded ≡ recorded_in (bytes_of (store.seen s slot))
    pub whole : IsWhole recorded
    pub begun : IsBegun files path slot plan f recorded w
    -- no poll was made, and no line given
    pub read : HasRead [] [] w

-- a position file is damaged so
pub record IsDamaged (slot : List ℕ) (recorded : Recorded) (damage : Damage) : Type 0 where
  pub file : damage.file ≡ slot
  pub place : damage.place ≡ 0
  pub recorded_is : recorded ≡ Damaged damage.found damage.expected
  pub differ : damage.found ≢ damage.expected
