-- The marks of a queue.
use Rattle.std.specs.Prelude.{◌≡◌, ℕ, ◌==◌, not, true, List, [], ◌∷◌, ◌++◌, length}
use Rattle.io_traits.specs.Folders.{Content}
use Rattle.crc_frame.specs.Slots.{is_slot, next_turn}
use Rattle.io_traits.specs.Images.{Image, at_rest}
use Rattle.io_traits.specs.Chance.{NoChance}
use Rattle.io_traits.specs.Tails.{passes}
use Rattle.queue_page.specs.Elements.{is_element}
use Rattle.queue_files.specs.Folders.{Role, head, checkpoint, Folder, Names, AreApart, folder_in}
use Rattle.queue_files.specs.Kept.{Page, Queue, first_open_of, state_at, IsQueue, Kept}
use Rattle.queue_files.specs.Resting.{TailsHeld, Held}
use Rattle.queue_files.specs.Steps.{marked}
use Rattle.queue_files.specs.Writes.{writes_of, MayChange, Wrote}
use Rattle.queue_files.specs.declared.marking.Mark.{Mark}

-- the files of these names, as reads give them
abbrev pub read_in : Names → Content → Folder
read_in names content role = content (names role)

-- the mark of a page that has so many bytes: the next slot of its checkpoint, which says what is acknowledged now
pub record IsMarkOf (names : Names) (role : Role) (p : Page) (len : ℕ) (m : Mark) : Type 0 where
  pub file : m.file ≡ names role
  pub turn : m.turn ≡ next_turn p.turn
  pub state : m.state ≡ state_at p (first_open_of p) p.rows len

-- of each page below the head, due where what is acknowledged now isn't recorded, and of the head page
abbrev pub AreMarksOf : Names → Page → ℕ → (tails : List Page) (folder : Folder) → TailsHeld tails folder → List Mark → Type 0
AreMarksOf names top len [] folder held marks = (m : Mark) × (marks ≡ m ∷ []) × IsMarkOf names head top len m × (m.due ≡ true)
AreMarksOf names top len (p ∷ tails) folder held marks =
    (m : Mark) × (rest : List Mark) × (marks ≡ m ∷ rest) × IsMarkOf names (checkpoint p.number) p (length held.0.bytes) m
    × (m.due ≡ not (first_open_of p == p.from)) × AreMarksOf names top len tails folder held.1 rest

abbrev pub MarksOf : Names → (q : Queue) (folder : Folder) → Held q folder → List Mark → Type 0
MarksOf names q folder held marks = AreMarksOf names q.top (length (held.top.front ++ held.top.tail)) q.tails folder held.tails marks

-- no slot stands by chance in a checkpoint of the folder, and no element in a page
pub record NoChances (names : Names) (i : Image) : Type 0 where
  pub slots : (role : Role) → NoChance (passes (is_slot 48)) (i (names role))
  pub elements : (role : Role) → NoChance (passes is_element) (i (names role))

-- Whatever a stop leaves of the marks of a queue, of which each may be torn, holds the queue.
abbrev pub MarksKeep : Type 0
MarksKeep =
    (names : Names) (q : Queue) (folder : Folder) (marks : List Mark) (d i : Image) → AreApart names → IsQueue q → (held : Held q folder) → MarksOf names q folder held marks
    → ((role : Role) → d (names role) ≡ at_rest (folder role)) → MayChange (writes_of marks) d i → NoChances names i → Kept q (folder_in names i)

-- Once the marks of a queue are written, reads give the queue of which all is recorded.
abbrev pub MarksRecord : Type 0
MarksRecord =
    (names : Names) (q : Queue) (old new : Content) (marks : List Mark) → AreApart names → IsQueue q → (held : Held q (read_in names old)) → MarksOf names q (read_in names old) held marks
    → Wrote (writes_of marks) old new → IsQueue (marked q) × Held (marked q) (read_in names new)
