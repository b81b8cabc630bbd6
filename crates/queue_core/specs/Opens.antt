-- When a queue that is open stands for the queue of a store's folder, and what a stop leaves of it.
use Rattle.std.specs.Prelude.{◌≡◌, ◌⊎◌, ◌≤◌, ◌+◌, ⊤, ℕ, suc, not, nat_lt, if◌then◌else◌, IsTrue, List, [], ◌∷◌, length}
use Rattle.io_traits.specs.Folders.{Content}
use Rattle.io_traits.specs.Reads.{bytes_of, file_length}
use Rattle.io_traits.specs.declared.stores.Store.{Ghosts as StoreWords}
use Rattle.queue_page.specs.Blocks.{IsPart}
use Rattle.queue_page.specs.declared.row.PageRow.{PageRow}
use Rattle.queue_files.specs.Folders.{head, page, checkpoint, names_in}
use Rattle.queue_files.specs.Kept.{Page, Queue}
use Rattle.queue_files.specs.Steps.{with_tails}
use Rattle.queue_files.specs.Ready.{Ready, Keeps}
use Rattle.queue_core.specs.Kept.{AreKept}
use Rattle.queue_core.specs.Views.{OpenPageView, QueueView}

-- ---- what is known of the store in any case

-- the numbers of the pages below the head rise, from one on up to that of the head page
abbrev pub Climb : ℕ → ℕ → List OpenPageView → Type 0
Climb from top [] = from ≤ top
Climb from top (o ∷ tails) = (from ≤ o.number) × Climb (suc o.number) top tails

-- each of these checkpoints has at least one slot
abbrev pub TailsSlotted : List ℕ → List OpenPageView → Content → Type 0
TailsSlotted folder [] content = ⊤
TailsSlotted folder (o ∷ tails) content = (48 ≤ file_length (content (names_in folder (checkpoint o.number)))) × TailsSlotted folder tails content

-- so has each checkpoint of a queue, so that the next slot of each has its place; and no two pages have one number
pub record IsSlotted (v : QueueView) (content : Content) : Type 0 where
  pub climb : Climb 0 v.top.number v.tails
  pub tails : TailsSlotted v.folder v.tails content
  pub top : 48 ≤ file_length (content (names_in v.folder head))

-- ---- a queue

-- the place behind the last of these rows of a page, which stand from a place on
abbrev pub place_behind : ℕ → List PageRow → ℕ
place_behind place [] = place
place_behind place (r ∷ rows) = place_behind r.next rows

-- this page that is open is this page of a queue
pub record IsPageOf (o : OpenPageView) (p : Page) : Type 0 where
  pub number : p.number ≡ o.number
  pub version : p.version ≡ o.page.version
  pub least : p.least ≡ o.page.state.least
  pub count : length p.rows ≡ o.page.state.count
  pub acknowledged : p.acknowledged ≡ o.acknowledged
  pub from : p.from ≡ o.from
  pub turn : p.turn ≡ o.turn
  pub long : o.page.state.length ≡ place_behind 1 p.rows

abbrev pub ArePagesOf : List OpenPageView → List Page → Type 0
ArePagesOf [] [] = ⊤
ArePagesOf [] (p ∷ pages) = ⊥
ArePagesOf (o ∷ tails) [] = ⊥
ArePagesOf (o ∷ tails) (p ∷ pages) = IsPageOf o p × ArePagesOf tails pages

-- the files of these pages have as many bytes as they say, or more
abbrev pub AreLong : List ℕ → List OpenPageView → Content → Type 0
AreLong folder [] content = ⊤
AreLong folder (o ∷ tails) content = (o.page.state.length ≤ file_length (content (names_in folder (page o.number)))) × AreLong folder tails content

-- a page of this number is open
abbrev pub IsAmong : ℕ → List OpenPageView → Type 0
IsAmong n [] = ⊥
IsAmong n (o ∷ tails) = (n ≡ o.number) ⊎ IsAmong n tails

abbrev pub HasPage : ℕ → QueueView → Type 0
HasPage n v = (n ≡ v.top.number) ⊎ IsAmong n v.tails

-- The files of all pages have as many bytes as they say, those below the head maybe more, what was read last of the page of the next row stands there, and that page isn't above the head. The rows that are kept of the head page stand in its file.
pub record IsOfFiles (v : QueueView) (content : Content) : Type 0 where
  pub tails : AreLong v.folder v.tails content
  pub top : file_length (content (names_in v.folder (page v.top.number))) ≡ v.top.page.state.length
  pub part : HasPage v.cursor.page v → IsPart (bytes_of (content (names_in v.folder (page v.cursor.page)))) v.cursor.block
  pub within : v.cursor.page ≤ v.top.number
  pub kept : AreKept v.top.number v.top.page.version (bytes_of (content (names_in v.folder (page v.top.number)))) v.cursor.kept

-- the first of these pages goes of which all rows are recorded as acknowledged, if there is one
abbrev pub unspent : List Page → List Page
unspent [] = []
unspent (p ∷ tails) = if not (nat_lt p.from (p.least + length p.rows)) then tails else p ∷ unspent tails

abbrev pub purged : Queue → Queue
purged q = with_tails (unspent q.tails) q

module _ {S : Type 0} (store : StoreWords S) where
  -- a queue takes calls on a store
  abbrev pub IsReady : QueueView → S → Type 0
  IsReady v s = IsTrue store.tells → IsSlotted v (store.seen s)

  -- the store holds this queue in its folder, and this is the queue that is open
  pub record Opens (v : QueueView) (q : Queue) (s : S) : Type 0 where
    pub ready : Ready store (names_in v.folder) q s
    pub tails : ArePagesOf v.tails q.tails
    pub top : IsPageOf v.top q.top
    pub files : IsTrue store.tells → IsOfFiles v (store.seen s)

  -- whatever a stop at any moment of a call leaves holds the queue from before it
  abbrev pub KeepsQueue : QueueView → S → S → Type 0
  KeepsQueue v old new = (q : Queue) → Opens v q old → Keeps store (names_in v.folder) q old new

  -- and behind it the store holds what the call makes of the queue
  abbrev pub Becomes : (Queue → Queue) → QueueView → QueueView → S → S → Type 0
  Becomes step v grown old new = (q : Queue) → Opens v q old → Opens grown (step q) new
