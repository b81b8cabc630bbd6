-- When a store holds a queue, whatever a stop leaves of it now.
use Rattle.std.specs.Prelude.{◌≡◌, ◌⊎◌, ◌<◌, ◌^◌, ◌+◌, ◌∷◌, ◌++◌, ℕ, suc, IsTrue, true, List, [], length, Ok}
use Rattle.io_traits.specs.Reads.{file_length}
use Rattle.crc_frame.specs.Slots.{next_turn}
use Rattle.io_traits.specs.Images.{Image, IsAtRest}
use Rattle.io_traits.specs.Moments.{MayLeaveNow, EachMoment}
use Rattle.io_traits.specs.declared.stores.Store.{Ghosts as StoreWords}
use Rattle.queue_page.specs.Grammar.{IsElement}
use Rattle.queue_page.specs.declared.row.PageRow.{PageRow}
use Rattle.queue_files.specs.Folders.{head, page, checkpoint, Names, AreApart, folder_in}
use Rattle.queue_files.specs.Found.{is_new, nothing_found, found}
use Rattle.queue_files.specs.Kept.{Page, Queue, state_at, IsQueue, Kept}
use Rattle.queue_files.specs.Resting.{Held, Rests}
use Rattle.queue_files.specs.Steps.{first_queue, marked, with_row, next_top, rolled, CanRoll, IsSpent, with_tails}
use Rattle.queue_files.specs.Marks.{read_in, MarksOf, NoChances}
use Rattle.queue_files.specs.declared.marking.Mark.{Mark}
use Rattle.queue_files.specs.declared.rolling.NextPage.{NextPage}

-- what is to be written for the page behind the head page, which has so many bytes
pub record IsNextPage (names : Names) (q : Queue) (len : ℕ) (next : NextPage) : Type 0 where
  pub checkpoint_is : next.checkpoint ≡ names (checkpoint q.top.number)
  pub sealed_is : next.sealed ≡ state_at q.top q.top.from q.top.rows len
  pub file_is : next.file ≡ names (page (suc q.top.number))
  pub head_is : next.head ≡ names head
  pub turn_is : next.turn ≡ next_turn q.top.turn
  pub state_is : next.state ≡ state_at (next_top q.top) (next_top q.top).from [] 1

-- this is one of the files to which that is written
abbrev pub IsOfNext : NextPage → List ℕ → Type 0
IsOfNext next name = (name ≡ next.checkpoint) ⊎ (name ≡ next.file) ⊎ (name ≡ next.head)

-- this page stands below the head of the queue, all its rows are recorded as acknowledged, and these are its files
pub record IsSpentPage (names : Names) (q : Queue) (before behind : List Page) (p : Page) (file slots : List ℕ) : Type 0 where
  pub parts : q.tails ≡ before ++ p ∷ behind
  pub spent : IsSpent p
  pub file_is : file ≡ names (page p.number)
  pub slots_are : slots ≡ names (checkpoint p.number)

module _ {S : Type 0} (store : StoreWords S) where
  -- Reads give the queue, and each image of now has its files at rest, but for the rows of the head page behind the last mark.
  pub record Ready (names : Names) (q : Queue) (s : S) : Type 0 where
    pub is : IsQueue q
    pub held : IsTrue store.tells → Held q (read_in names (store.seen s))
    pub images : (told : IsTrue store.tells) (i : Image) → MayLeaveNow store s i → Rests q names (read_in names (store.seen s)) (held told) i

  -- ---- a new queue

  -- a new folder, in which all files are at rest, with the names of its page 0 and of the checkpoint of its head
  pub record IsNewFolder (names : Names) (file slots : List ℕ) (s : S) : Type 0 where
    pub is : IsTrue store.tells → is_new (read_in names (store.seen s)) ≡ true
    pub rests : (i : Image) → MayLeaveNow store s i → IsAtRest (store.seen s) i
    pub file_is : file ≡ names (page 0)
    pub slots_are : slots ≡ names head

  -- A new folder in which a queue is made holds no row at each moment.
  abbrev pub FirstKeeps : List ℕ → List ℕ → S → S → Type 0
  FirstKeeps file slots old new =
      (names : Names) → AreApart names → IsNewFolder names file slots old → EachMoment store old new (λ i. NoChances names i → found (folder_in names i) ≡ Ok nothing_found)

  -- and then the first queue is ready
  abbrev pub FirstReady : List ℕ → List ℕ → S → S → Type 0
  FirstReady file slots old new = (names : Names) → AreApart names → IsNewFolder names file slots old → Ready names first_queue new

  -- ---- a mark

  -- the marks of a queue that is ready
  abbrev pub AreMarks : (names : Names) (q : Queue) (s : S) → Ready names q s → List Mark → Type 0
  AreMarks names q s ready marks = (told : IsTrue store.tells) → MarksOf names q (read_in names (store.seen s)) (ready.held told) marks

  -- whatever a stop at any moment leaves holds the queue
  abbrev pub Keeps : Names → Queue → S → S → Type 0
  Keeps names q old new = EachMoment store old new (λ i. NoChances names i → Kept q (folder_in names i))

  -- a mark of a queue that is ready keeps it at each moment
  abbrev pub MarkKeeps : List Mark → S → S → Type 0
  MarkKeeps marks old new = (names : Names) (q : Queue) → AreApart names → (ready : Ready names q old) → AreMarks names q old ready marks → Keeps names q old new

  -- and leaves the queue ready, with all of it recorded
  abbrev pub MarkRecords : List Mark → S → S → Type 0
  MarkRecords marks old new = (names : Names) (q : Queue) → AreApart names → (ready : Ready names q old) → AreMarks names q old ready marks → Ready names (marked q) new

  -- ---- a row

  -- these bytes are the element of this row, which comes next in the head page of the queue
  pub record IsNextRow (names : Names) (q : Queue) (row : PageRow) (name frame : List ℕ) (s : S) : Type 0 where
    pub is_name : name ≡ names (page q.top.number)
    pub is_queue : IsQueue (with_row row q)
    pub number : row.number ≡ q.top.least + length q.top.rows
    pub element : IsTrue store.tells → IsElement q.top.version (file_length (store.seen s name)) row frame
    pub short : IsTrue store.tells → file_length (store.seen s name) + length frame < 2 ^ 64

  -- An element that is appended to the head page of a queue that is ready keeps the queue with its row at each moment: the row may be missing.
  abbrev pub RowKept : List ℕ → List ℕ → S → S → Type 0
  RowKept name frame old new =
      (names : Names) (q : Queue) (row : PageRow) → AreApart names → (ready : Ready names q old) → IsNextRow names q row name frame old → Keeps names (with_row row q) old new

  -- and then the queue with its row is ready
  abbrev pub RowReady : List ℕ → List ℕ → S → S → Type 0
  RowReady name frame old new =
      (names : Names) (q : Queue) (row : PageRow) → AreApart names → (ready : Ready names q old) → IsNextRow names q row name frame old → Ready names (with_row row q) new

  -- ---- a new head page

  -- what is to be written for the next page of a queue that is ready
  abbrev pub IsNextPageOf : (names : Names) (q : Queue) (s : S) → Ready names q s → NextPage → Type 0
  IsNextPageOf names q s ready next = (told : IsTrue store.tells) → IsNextPage names q (length ((ready.held told).top.front ++ (ready.held told).top.tail)) next

  -- A new head page behind a queue that is ready, of which all is recorded, keeps the queue at each moment.
  abbrev pub PageKeeps : NextPage → S → S → Type 0
  PageKeeps next old new = (names : Names) (q : Queue) → AreApart names → (ready : Ready names q old) → CanRoll q → IsNextPageOf names q old ready next → Keeps names q old new

  -- and then the queue with its new head page is ready
  abbrev pub PageReady : NextPage → S → S → Type 0
  PageReady next old new =
      (names : Names) (q : Queue) → AreApart names → (ready : Ready names q old) → CanRoll q → IsNextPageOf names q old ready next → Ready names (rolled q) new

  -- ---- a page that goes

  -- A page of a queue that is ready, all of whose rows are recorded as acknowledged, goes and keeps the queue at each moment.
  abbrev pub PurgeKeeps : List ℕ → List ℕ → S → S → Type 0
  PurgeKeeps file slots old new =
      (names : Names) (q : Queue) (before behind : List Page) (p : Page) → AreApart names → Ready names q old → IsSpentPage names q before behind p file slots → Keeps names q old new

  -- and then the queue without it is ready
  abbrev pub PurgeReady : List ℕ → List ℕ → S → S → Type 0
  PurgeReady file slots old new =
      (names : Names) (q : Queue) (before behind : List Page) (p : Page) → AreApart names → Ready names q old → IsSpentPage names q before behind p file slots
      → Ready names (with_tails (before ++ behind) q) new
