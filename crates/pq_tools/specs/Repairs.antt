-- A repair: what the new queue holds meanwhile, and how it ends.
use Rattle.std.specs.Prelude.{◌≡◌, ◌⊎◌, ℕ, suc, ◌+◌, ◌&&◌, nat_lt, not, if◌then◌else◌, Bool, true, false, IsTrue, IsSome, List, [], ◌∷◌, ◌++◌, length, Option, Result, Ok, Err, ⊤}
use Rattle.io_traits.specs.Folders.{Content, IsPart}
use Rattle.io_traits.specs.declared.sinks.Sink.{Ghosts as SinkWords}
use Rattle.io_traits.specs.Images.{Image}
use Rattle.io_traits.specs.Moments.{NowOrSynced}
use Rattle.io_traits.specs.declared.stores.Store.{Ghosts as StoreWords}
use Rattle.io_traits.specs.declared.queue_faults.QueueFault.{QueueFault}
use Rattle.io_traits.specs.declared.queue_faults.QueueFault.TheVariants as q
use Rattle.queue_page.specs.declared.row.PageRow.{PageRow}
use Rattle.io_traits.specs.Reads.{bytes_of}
use Rattle.io_traits.specs.declared.pages.PageState.{PageState}
use Rattle.slot_files.specs.Checkpoints.{newest_in}
use Rattle.queue_files.specs.Folders.{Folder, IsOwn, Role, head, names_in, page}
use Rattle.queue_files.specs.Found.{Found, Row, found, row_of, since}
use Rattle.queue_files.specs.Kept.{Page, Queue, all_rows, leading}
use Rattle.queue_files.specs.Marks.{read_in}
use Rattle.queue_core.specs.Opens.{Opens}
use Rattle.queue_core.specs.Views.{QueueView}
use Rattle.io_traits.specs.declared.faults.ListFault.{ListFault}
use Rattle.io_traits.specs.declared.faults.ListFault.TheVariants as l
use Rattle.pq_tools.specs.Checks.{Prints, PrintsNone}
use Rattle.pq_tools.specs.Orders.{Ordered}
use Rattle.pq_tools.specs.PageRuns.{IsNextRow, IsRun, rows_left}
use Rattle.pq_tools.specs.declared.salvaging.PageRun.{PageRun}
use Rattle.pq_tools.specs.Salvage.{open_from, renumbered, salvage, taken_by}
use Rattle.pq_tools.specs.Numbers.{behind_rows, new_queue, runs_out, spends_numbers}
use Rattle.pq_tools.specs.Statuses.{rows_line}
use Rattle.pq_tools.specs.declared.fault.RepairFault.{RepairFault}
use Rattle.pq_tools.specs.declared.fault.RepairFault.TheVariants as r
use Rattle.pq_tools.specs.declared.orders.ToolOrder.{ToolOrder}
use Rattle.pq_tools.specs.declared.status.ToolStatus.{ToolStatus}
use Rattle.pq_tools.specs.declared.status.ToolStatus.TheVariants as s

-- ---- rows that are taken

-- of rows of a page those from this number on, or none
abbrev pub given : Bool → ℕ → List PageRow → List Row
given true from rows = since from rows
given false from rows = []

-- a row, if it is given
abbrev pub row_if : Bool → PageRow → List Row
row_if given row = if given then row_of row ∷ [] else []

-- of the pages of these numbers
abbrev pub salvaged_of : Folder → ℕ → List ℕ → List Row
salvaged_of folder end [] = []
salvaged_of folder end (n ∷ numbers) = taken_by (open_from folder n) end (folder (page n)) (λ e. salvaged_of folder e numbers)

-- The next row of a run was read, and written where it is given; or no row was left.
abbrev pub Stepped : List ℕ → Bool → ℕ → PageRun → PageRun → List Row → Bool → Type 0
Stepped file gives from old new done true = (row : PageRow) × IsNextRow file old new row × (done ≡ row_if (gives && not (nat_lt row.number from)) row)
Stepped file gives from old new done false = (rows_left file old ≡ []) × (done ≡ [])

-- ---- the new queue

-- nothing of a page is acknowledged
pub record IsFresh (p : Page) : Type 0 where
  pub from : p.from ≡ p.least
  pub none : leading p.acknowledged ≡ 0

abbrev pub AllFresh : List Page → Type 0
AllFresh [] = ⊤
AllFresh (p ∷ pages) = IsFresh p × AllFresh pages

-- a queue of these rows, with numbers from 1 on, none of which is acknowledged
pub record IsNewQueue (q : Queue) (rows : List Row) : Type 0 where
  pub rows_are : all_rows q.tails q.top ≡ renumbered 1 rows
  pub tails : AllFresh q.tails
  pub top : IsFresh q.top
  pub next : q.top.least + length q.top.rows ≡ suc (length rows)

module _ {S : Type 0} (store : StoreWords S) where
  -- the store holds such a queue, and it is the one that is open
  pub record Holds (v : QueueView) (rows : List Row) (s : S) : Type 0 where
    pub queue : Queue
    pub opens : Opens store v queue s
    pub is : IsNewQueue queue rows

  -- it has numbers for these rows, and behind those that it has they come
  pub record Added (rows : List Row) (v w : QueueView) (old new : S) : Type 0 where
    pub is : w ≡ behind_rows v rows
    pub fits : runs_out v rows ≡ false
    pub holds : (before : List Row) → Holds v before old → Holds w (before ++ rows) new

  abbrev pub Adds : List Row → QueueView → QueueView → S → S → Type 0
  Adds rows v w old new = IsTrue store.tells → Added rows v w old new

  -- it has no number left for one of these
  abbrev pub Spends : List Row → QueueView → Type 0
  Spends rows v = IsTrue store.tells → runs_out v rows ≡ true

  -- it was made in this folder, and has no rows
  pub record IsMade (folder : List ℕ) (v : QueueView) (s : S) : Type 0 where
    pub is : v ≡ new_queue folder
    pub holds : Holds v [] s

  pub record Steps (file : List ℕ) (gives : Bool) (from : ℕ) (run next : PageRun) (v w : QueueView) (old new : S) (more : Bool) : Type 0 where
    pub done : List Row
    pub adds : Adds done v w old new
    pub step : IsTrue store.tells → IsRun file run → Stepped file gives from run next done more

  -- the rows that are taken of the page of this number were written, where the newest slot of the head says this; and behind it comes this number
  pub record Numbered (folder : List ℕ) (number : ℕ) (newest : Option (ℕ × PageState)) (end behind : ℕ) (v w : QueueView) (old new : S) : Type 0 where
    pub done : List Row
    pub adds : Adds done v w old new
    pub is : IsTrue store.tells → newest_in (bytes_of (store.seen old (names_in folder head))) ≡ newest → (numbers : List ℕ)
        → salvaged_of (read_in (names_in folder) (store.seen old)) end (number ∷ numbers) ≡ done ++ salvaged_of (read_in (names_in folder) (store.seen old)) behind numbers

-- ---- how it ends

-- no file of a folder has the name of one of another's
abbrev pub AreDifferent : List ℕ → List ℕ → Type 0
AreDifferent folder other = (role : Role) → IsOwn (names_in other) (names_in folder role) → ⊥

-- a file stands in this folder, whose path ends with a slash
abbrev pub HasFile : List ℕ → Content → Type 0
HasFile folder content = (part : List ℕ) × IsPart part × IsSome (content (folder ++ part))

-- the list of its files failed
abbrev pub by_list : ListFault → RepairFault
by_list l.Failed = r.Store
by_list l.Memory = r.Memory

-- A call of a queue failed. Damage says that a file stands there.
abbrev pub by_queue : QueueFault → RepairFault
by_queue q.Fault = r.Store
by_queue q.Memory = r.Memory
by_queue (q.Damaged damage) = r.NotNew

-- a folder holds so many rows, which are these with numbers from 1 on
pub record HasRows (folder : Folder) (rows : List Row) (count : ℕ) : Type 0 where
  pub held : Found
  pub is_found : found folder ≡ Ok held
  pub rows_are : held.rows ≡ renumbered 1 rows
  pub many : count ≡ length held.rows

-- those that are taken of another
abbrev pub IsRepaired : Folder → Folder → ℕ → Type 0
IsRepaired old new count = HasRows new (salvage old) count

-- A new queue is there, and the folder had no file; or it had one, or the store or memory failed.
abbrev pub OpensNew : {X : Type 0} → Type 0 → (X → Type 0) → Result X RepairFault → Type 0
OpensNew has Is (Ok x) = (has → ⊥) × Is x
OpensNew has Is (Err r.NotNew) = has
OpensNew has Is (Err r.NumbersSpent) = ⊥
OpensNew has Is (Err r.Store) = ⊤
OpensNew has Is (Err r.Memory) = ⊤

-- So many rows were written, where the folder of the new queue had no file, and that has numbers for them.
abbrev pub Salvages : Type 0 → Bool → (ℕ → Type 0) → Result ℕ RepairFault → Type 0
Salvages has spends Is (Ok count) = (has → ⊥) × (spends ≡ false) × Is count
Salvages has spends Is (Err r.NotNew) = has
Salvages has spends Is (Err r.NumbersSpent) = (has → ⊥) × (spends ≡ true)
Salvages has spends Is (Err r.Store) = ⊤
Salvages has spends Is (Err r.Memory) = ⊤

abbrev pub status_by : List ℕ → List ℕ → RepairFault → ToolStatus
status_by id folder r.Store = s.StoreFault id
status_by id folder r.Memory = s.NoMemory
status_by id folder r.NumbersSpent = s.NumbersSpent id
status_by id folder r.NotNew = s.NotNew folder

-- the files of the new queue that words order
abbrev pub IsOfRepair : Ordered → List ℕ → Type 0
IsOfRepair (Ok order) name = IsOwn (names_in order.repaired) name
IsOfRepair (Err why) name = ⊥

-- the queue that words order to be repaired has the same files in both images
abbrev pub IsUnrepaired : Ordered → Image → Image → Type 0
IsUnrepaired (Ok order) i d = (role : Role) → i (names_in order.folder role) ≡ d (names_in order.folder role)
IsUnrepaired (Err why) i d = ⊤

-- that queue is in an image as a stop might have left it before, or as it was read then, at rest
abbrev pub LeavesQueue : {S : Type 0} → StoreWords S → Ordered → S → Image → Type 0
LeavesQueue store ordered old i = (d : Image) × NowOrSynced store old d × IsUnrepaired ordered i d

module _ {S O : Type 0} (store : StoreWords S) (sink : SinkWords O) where
  -- How the repair of a queue ends. The rows that were written are told; or nothing was printed, and a fault is told.
  pub data Repairs (order : ToolOrder) (old new : S) (out_old out_new : O) (status : ToolStatus) : Type 0 where
    rows_told : (count : ℕ) → (IsTrue store.tells → HasFile order.repaired (store.seen old) → ⊥)
        → (IsTrue store.tells → spends_numbers order.repaired (read_in (names_in order.folder) (store.seen old)) ≡ false)
        → (IsTrue store.tells → IsRepaired (read_in (names_in order.folder) (store.seen old)) (read_in (names_in order.repaired) (store.seen new)) count)
        → Prints sink (rows_line count) s.Done out_old out_new status → Repairs order old new out_old out_new status
    not_new : status ≡ s.NotNew order.repaired → (IsTrue store.tells → HasFile order.repaired (store.seen old)) → PrintsNone sink out_old out_new → Repairs order old new out_old out_new status
    spent : status ≡ s.NumbersSpent order.id → (IsTrue store.tells → HasFile order.repaired (store.seen old) → ⊥)
        → (IsTrue store.tells → spends_numbers order.repaired (read_in (names_in order.folder) (store.seen old)) ≡ true) → PrintsNone sink out_old out_new → Repairs order old new out_old out_new status
    failed : (status ≡ s.StoreFault order.id) ⊎ (status ≡ s.NoMemory) → PrintsNone sink out_old out_new → Repairs order old new out_old out_new status

  abbrev pub RepairsAs : Ordered → S → S → O → O → ToolStatus → Type 0
  RepairsAs (Ok order) old new out_old out_new status = Repairs order old new out_old out_new status
  RepairsAs (Err why) old new out_old out_new status = ((status ≡ s.BadWords why) ⊎ (status ≡ s.NoMemory)) × PrintsNone sink out_old out_new
