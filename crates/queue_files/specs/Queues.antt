-- The queue that the pages of a folder are.
use Rattle.std.specs.Prelude.{◌≡◌, ◌≢◌, ◌<◌, ◌+◌, ◌^◌, nat_lt, ℕ, Bool, IsTrue, ⊤, List, [], ◌∷◌, length, take, Some, option_map, Ok}
use Rattle.io_traits.specs.Reads.{bytes_of}
use Rattle.io_traits.specs.Images.{Image, IsAtRest}
use Rattle.io_traits.specs.Moments.{MayLeaveNow}
use Rattle.io_traits.specs.declared.stores.Store.{Ghosts as StoreWords}
use Rattle.io_traits.specs.declared.pages.PageState.{PageState}
use Rattle.slot_files.specs.Checkpoints.{FitsSlot, newest_in}
use Rattle.queue_page.specs.Blocks.{AreBytesIn}
use Rattle.queue_page.specs.Pages.{PageRows, view_of}
use Rattle.queue_page.specs.Views.{PageView}
use Rattle.queue_page.specs.declared.row.PageRow.{PageRow}
use Rattle.queue_files.specs.Folders.{Role, page, checkpoint, Folder, Names}
use Rattle.queue_files.specs.Checkpoints.{told}
use Rattle.queue_files.specs.Found.{found}
use Rattle.queue_files.specs.Kept.{Page, Queue, all_rows}
use Rattle.queue_files.specs.Marks.{read_in}
use Rattle.queue_files.specs.Ready.{Ready}
use Rattle.queue_files.specs.declared.opening.OpenedQueue.{OpenedQueue}
use Rattle.queue_files.specs.declared.scanned.Scanned.{Scanned}
use Rattle.queue_files.specs.declared.sealed_pages.SealedPage.{SealedPage}

-- ---- pages as they were read

-- which of these rows have a number below this
abbrev pub below : ℕ → List PageRow → List Bool
below from [] = []
below from (r ∷ rows) = nat_lt r.number from ∷ below from rows

-- the page of this number, of which a slot of this turn says this, and which was read so: what is below its first open number is acknowledged
abbrev pub page_of : ℕ → ℕ → PageState → PageRows → Page
page_of number turn s read = record {
  number = number;
  version = read.version;
  least = s.least;
  rows = read.rows;
  acknowledged = below s.first_open read.rows;
  from = s.first_open;
  turn = turn;
}

-- the pages of which these tell, as they are to callers, with as many rows
abbrev pub ArePages : List SealedPage → List PageView → List Page → Type 0
ArePages [] views pages = pages ≡ []
ArePages (t ∷ tails) views pages =
    (read : PageRows) × (rest : List Page) × (more : List PageView) × (pages ≡ page_of t.number t.turn t.state read ∷ rest) × (length read.rows ≡ t.state.count) × (views ≡ view_of t.state read ∷ more)
    × ArePages tails more rest

-- ---- their checkpoints, and their bytes

-- the newest slot of this file has this turn, and says this
pub record IsNewest (slots : List ℕ) (turn : ℕ) (s : PageState) : Type 0 where
  pub fits : FitsSlot turn s
  pub is : newest_in slots ≡ Some (turn, s)

abbrev pub AreNewest : Folder → List SealedPage → Type 0
AreNewest folder [] = ⊤
AreNewest folder (t ∷ tails) = IsNewest (bytes_of (folder (checkpoint t.number))) t.turn t.state × AreNewest folder tails

-- the newest slot of each tells what was read of it
abbrev pub AreTold : Folder → List SealedPage → Type 0
AreTold folder [] = ⊤
AreTold folder (t ∷ tails) = (told (folder (checkpoint t.number)) ≡ Ok t.state) × AreTold folder tails

-- what is recorded of each are bytes
abbrev pub HaveBytes : Folder → List SealedPage → Type 0
HaveBytes folder [] = ⊤
HaveBytes folder (t ∷ tails) = AreBytesIn 0 t.state.length (bytes_of (folder (page t.number))) × HaveBytes folder tails

-- the queue of a folder that was opened
pub record IsQueueOf (folder : Folder) (o : OpenedQueue) (q : Queue) : Type 0 where
  pub tails : ArePages o.pages.tails.items o.pages.pages.items q.tails
  pub read : PageRows
  pub top : q.top ≡ page_of o.state.page o.turn o.state read
  pub top_is : o.pages.top ≡ view_of o.state read
  pub marked : q.marked ≡ o.state.count
  pub is_found : found folder ≡ Ok (record { rows = all_rows q.tails q.top; next = q.top.least + length q.top.rows; recorded = q.top.least + q.marked })

-- ---- what reads give once pages are read

-- all as before, but that of the head page only what was read is left
pub record IsCut (s : PageState) (r : Scanned) (a b : Folder) : Type 0 where
  pub top : b (page s.page) ≡ option_map (take r.top.state.length) (a (page s.page))
  pub others : (role : Role) → role ≢ page s.page → b role ≡ a role

module _ {S : Type 0} (store : StoreWords S) where
  abbrev pub IsAllAtRest : S → Type 0
  IsAllAtRest s = (i : Image) → MayLeaveNow store s i → IsAtRest (store.seen s) i

  -- The pages were read of a folder at rest, and all is at rest. Their checkpoints have these turns, and what was read of them are bytes.
  pub record LeavesRead (names : Names) (s : PageState) (r : Scanned) (old new : S) : Type 0 where
    pub rests : (i : Image) → MayLeaveNow store new i → IsAtRest (store.seen new) i
    pub cut : IsTrue store.tells → IsCut s r (read_in names (store.seen old)) (read_in names (store.seen new))
    pub newest : IsTrue store.tells → AreNewest (read_in names (store.seen old)) r.tails.items
    pub tail_bytes : IsTrue store.tells → HaveBytes (read_in names (store.seen old)) r.tails.items
    pub top_bytes : IsTrue store.tells → AreBytesIn 0 r.top.state.length (bytes_of (store.seen old (names (page s.page))))
    pub short : r.top.state.length < 2 ^ 64

  -- the queue of a folder that was opened is ready
  pub record OpensQueue (names : Names) (o : OpenedQueue) (old new : S) : Type 0 where
    pub queue : Queue
    pub is : IsQueueOf (read_in names (store.seen old)) o queue
    pub ready : Ready store names queue new

  abbrev pub OpensReady : Names → OpenedQueue → S → S → Type 0
  OpensReady names o old new = IsTrue store.tells → OpensQueue names o old new
