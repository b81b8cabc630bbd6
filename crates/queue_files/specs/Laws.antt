-- Laws of folders.
use Rattle.std.specs.Prelude.{◌≡◌, ◌⊎◌, ◌≤◌, ◌<◌, ℕ, true, List, [], ◌∷◌, ◌++◌, length, Option, Some, None, Ok}
use Rattle.io_traits.specs.Reads.{bytes_of}
use Rattle.crc_frame.specs.Slots.{newest_slot}
use Rattle.io_traits.specs.Images.{Image, FileImage}
use Rattle.io_traits.specs.Chance.{NoChance}
use Rattle.io_traits.specs.Tails.{passes}
use Rattle.io_traits.specs.declared.pages.PageState.{PageState}
use Rattle.slot_files.specs.Checkpoints.{FitsSlot, newest_in}
use Rattle.queue_page.specs.Elements.{is_element}
use Rattle.queue_page.specs.Pages.{opened}
use Rattle.queue_page.specs.declared.row.PageRow.{PageRow}
use Rattle.queue_files.specs.Folders.{head, page, checkpoint, Folder, Names, AreApart, IsOwn, names_in, folder_in}
use Rattle.queue_files.specs.Checkpoints.{told}
use Rattle.queue_files.specs.Found.{is_new, nothing_found, found}
use Rattle.queue_files.specs.Kept.{Page, Queue, first_open_of, state_at, IsTail, IsTop, IsSound, IsQueue, Stands, Kept}
use Rattle.queue_files.specs.Resting.{Records, MayRecord, TailHeld, TopHeld, MayHoldTail, Held, Rests, Marks}
use Rattle.queue_files.specs.Steps.{first_page, first_queue, marked, with_row, rolled, CanRoll, IsSpent, with_tails}
use Rattle.queue_files.specs.Changes.{SameFiles, IsRolled, IsPurged}

-- a folder that holds a queue file by file holds its rows
abbrev pub StandingIsKept : Type 0
StandingIsKept = (q : Queue) (folder : Folder) → IsQueue q → Stands q folder → Kept q folder

-- no two files of a folder have one name
abbrev pub NamesDiffer : Type 0
NamesDiffer = (folder : List ℕ) → AreApart (names_in folder)

-- What is found goes by what the head slot tells, by the pages below the head that it names and their checkpoints, and by what that page says when
-- it is opened. So pages above it, checkpoints from it on or without a page, and what stands behind the rows of the head page change nothing.
abbrev pub FoundGoesByPages : Type 0
FoundGoesByPages =
    (a b : Folder) (s : PageState) → told (a head) ≡ Ok s → told (b head) ≡ Ok s → ((n : ℕ) → n < s.page → b (page n) ≡ a (page n))
    → ((n : ℕ) → n < s.page → (b (checkpoint n) ≡ a (checkpoint n)) ⊎ (a (page n) ≡ None))
    → opened true s (bytes_of (b (page s.page))) ≡ opened true s (bytes_of (a (page s.page))) → found b ≡ found a

-- what is read of a checkpoint is recorded there
abbrev pub ReadIsRecorded : Type 0
ReadIsRecorded =
    (slots : Option (List ℕ)) (turn : ℕ) (s : PageState) → FitsSlot turn s → newest_in (bytes_of slots) ≡ Some (turn, s) → told slots ≡ Ok s → Records (bytes_of slots) turn s

-- ---- what a stop leaves of one file of a queue

-- A page below the head stands, be the slot that records what is acknowledged now written, torn, or not yet written.
abbrev pub TailsStand : Type 0
TailsStand =
    (p : Page) (slots file : Option (List ℕ)) (f : FileImage) → IsSound p → (held : TailHeld p slots file)
    → MayRecord slots p.turn (state_at p (first_open_of p) p.rows (length held.bytes)) f → IsTail p f.file file

-- So does the head page, while all its rows are settled and the slot that records them is written.
abbrev pub MarkedHeadsStand : Type 0
MarkedHeadsStand =
    (q : Queue) (slots file : Option (List ℕ)) (f : FileImage) → IsSound q.top → (held : TopHeld q slots file)
    → MayRecord slots q.top.turn (state_at q.top (first_open_of q.top) q.top.rows (length (held.front ++ held.tail))) f → IsTop q f.file file

-- And while rows behind those that were recorded may be there or not, as long as its checkpoint rests.
abbrev pub OpenHeadsStand : Type 0
OpenHeadsStand =
    (q : Queue) (slots file : Option (List ℕ)) (f : FileImage) → IsSound q.top → (held : TopHeld q slots file) → MayHoldTail held.front held.tail f
    → IsTop q slots f.file

-- ---- what a stop leaves of a whole queue

-- between two calls, where no element stands by chance in the head page
abbrev pub RestingIsKept : Type 0
RestingIsKept =
    (q : Queue) (names : Names) (folder : Folder) (i : Image) → IsQueue q → (held : Held q folder) → Rests q names folder held i → NoChance (passes is_element) (i (names (page q.top.number)))
    → Kept q (folder_in names i)

-- while a mark is written
abbrev pub MarkingIsKept : Type 0
MarkingIsKept = (q : Queue) (names : Names) (folder : Folder) (i : Image) → IsQueue q → (held : Held q folder) → Marks q names folder held i → Kept q (folder_in names i)

-- ---- a new queue

-- A folder is new as long as it is so but for its page 0 and its head slot, of which no slot is intact and which has no more bytes than one.
abbrev pub StaysNew : Type 0
StaysNew =
    (a b : Folder) → is_new a ≡ true → newest_slot 48 (bytes_of (b head)) ≡ None → length (bytes_of (b head)) ≤ 48 → ((n : ℕ) → 1 ≤ n → b (page n) ≡ a (page n))
    → ((n : ℕ) → b (checkpoint n) ≡ a (checkpoint n)) → is_new b ≡ true

-- once its page 0 is begun, and its head slot written, reads give the first queue
abbrev pub FirstIsHeld : Type 0
FirstIsHeld =
    (a b : Folder) → is_new a ≡ true → ((n : ℕ) → 1 ≤ n → b (page n) ≡ a (page n)) → ((n : ℕ) → b (checkpoint n) ≡ a (checkpoint n)) → b (page 0) ≡ Some (2 ∷ [])
    → Records (bytes_of (b head)) 0 (state_at first_page 1 [] 1) → Held first_queue b

-- and a folder that holds the first queue holds no row
abbrev pub FirstIsEmpty : Type 0
FirstIsEmpty = (folder : Folder) → Kept first_queue folder → found folder ≡ Ok nothing_found

-- ---- folders with the same files, a new head page, and a page that goes

-- what reads give of a queue between two calls stands file by file
abbrev pub HeldStands : Type 0
HeldStands = (q : Queue) (folder : Folder) → IsQueue q → Held q folder → Stands q folder

-- and so does a folder that has the same files of a queue, whatever else is in it
abbrev pub SameFilesStand : Type 0
SameFilesStand = (q : Queue) (a b : Folder) → SameFiles q a b → Stands q a → Stands q b

abbrev pub RolledIsQueue : Type 0
RolledIsQueue = (q : Queue) → IsQueue q → CanRoll q → IsQueue (rolled q)

-- once the new head page is begun, and its slot written, reads give the queue with it
abbrev pub RolledIsHeld : Type 0
RolledIsHeld = (q : Queue) (a b : Folder) → IsQueue q → (held : Held q a) → IsRolled q (length (held.top.front ++ held.top.tail)) a b → Held (rolled q) b

abbrev pub PurgedIsQueue : Type 0
PurgedIsQueue = (q : Queue) (before behind : List Page) (p : Page) → q.tails ≡ before ++ p ∷ behind → IsQueue q → IsQueue (with_tails (before ++ behind) q)

-- where a page below the head is gone, the queue without it stands
abbrev pub PurgedStands : Type 0
PurgedStands =
    (q : Queue) (before behind : List Page) (p : Page) (a b : Folder) → q.tails ≡ before ++ p ∷ behind → IsQueue q → Stands q a → IsPurged p.number a b
    → Stands (with_tails (before ++ behind) q) b

-- and reads give it
abbrev pub PurgedIsHeld : Type 0
PurgedIsHeld =
    (q : Queue) (before behind : List Page) (p : Page) (a b : Folder) → q.tails ≡ before ++ p ∷ behind → IsQueue q → Held q a → IsPurged p.number a b
    → Held (with_tails (before ++ behind) q) b

-- ---- what a call makes of a queue keeps the queue before it

abbrev pub MarkedKeeps : Type 0
MarkedKeeps = (q : Queue) (folder : Folder) → q.marked ≤ length q.top.rows → Kept (marked q) folder → Kept q folder

abbrev pub RowKeeps : Type 0
RowKeeps = (q : Queue) (row : PageRow) (folder : Folder) → Kept q folder → Kept (with_row row q) folder

abbrev pub RolledKeeps : Type 0
RolledKeeps = (q : Queue) (folder : Folder) → q.marked ≤ length q.top.rows → Kept (rolled q) folder → Kept q folder

-- so does a new head page behind a mark
abbrev pub MarkedRolledKeeps : Type 0
MarkedRolledKeeps = (q : Queue) (folder : Folder) → q.marked ≤ length q.top.rows → Kept (rolled (marked q)) folder → Kept q folder

abbrev pub PurgedKeeps : Type 0
PurgedKeeps =
    (q : Queue) (before behind : List Page) (p : Page) (folder : Folder) → q.tails ≡ before ++ p ∷ behind → IsSound p → IsSpent p
    → Kept (with_tails (before ++ behind) q) folder → Kept q folder

-- ---- other files of a store

-- what a folder holds goes by its own files alone
abbrev pub FoundBeside : Type 0
FoundBeside = (names : Names) (i d : Image) → ((name : List ℕ) → IsOwn names name → i name ≡ d name) → found (folder_in names i) ≡ found (folder_in names d)

-- and so does whether it holds a queue
abbrev pub KeptBeside : Type 0
KeptBeside =
    (names : Names) (q : Queue) (i d : Image) → ((name : List ℕ) → IsOwn names name → i name ≡ d name) → Kept q (folder_in names d) → Kept q (folder_in names i)
