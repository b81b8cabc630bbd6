-- What an opening answers, and what a stop leaves of it.
use Rattle.std.specs.Prelude.{◌≡◌, ◌⊎◌, ◌+◌, true, IsTrue, Result, Ok, Err}
use Rattle.io_traits.specs.Folders.{Content}
use Rattle.io_traits.specs.Reads.{bytes_of}
use Rattle.io_traits.specs.Images.{Image, IsAtRest}
use Rattle.io_traits.specs.Moments.{MayLeaveNow, EachMoment}
use Rattle.io_traits.specs.declared.stores.Store.{Ghosts as StoreWords}
use Rattle.io_traits.specs.declared.queue_faults.QueueFault.{QueueFault}
use Rattle.slot_files.specs.Checkpoints.{slots_of}
use Rattle.queue_files.specs.Folders.{Names, head, Folder, folder_in}
use Rattle.queue_files.specs.Found.{Found, is_new, found}
use Rattle.queue_files.specs.Kept.{Queue, Kept}
use Rattle.queue_files.specs.Collected.{IsLost}
use Rattle.queue_files.specs.Listing.{IsListed}
use Rattle.queue_files.specs.Marks.{read_in, NoChances}
use Rattle.queue_files.specs.Ready.{Keeps}
use Rattle.queue_files.specs.declared.look.Look.{Look}
use Rattle.queue_files.specs.declared.opening.OpenedQueue.{OpenedQueue}

-- ---- what is found

-- the folder holds rows, behind which comes the next number of the head page
pub record IsOpened (folder : Folder) (o : OpenedQueue) : Type 0 where
  pub rows : Found
  pub is_found : found folder ≡ Ok rows
  pub next : rows.next ≡ o.pages.top.state.least + o.pages.top.state.count

abbrev pub FindsOpened : Names → Folder → Result OpenedQueue QueueFault → Type 0
FindsOpened names folder (Ok o) = IsOpened folder o
FindsOpened names folder (Err fault) = IsLost names fault (found folder)

-- ---- a look at a folder

-- this is a list of its files, and what its head slot says
pub record IsLook (names : Names) (content : Content) (look : Look) : Type 0 where
  pub listed : IsListed (read_in names content) look.listing
  pub slots_are : look.slots ≡ slots_of (bytes_of (content (names head)))

module _ {S : Type 0} (store : StoreWords S) where
  -- all is at rest, and was looked at
  pub record IsSeen (names : Names) (look : Look) (s : S) : Type 0 where
    pub rests : (i : Image) → MayLeaveNow store s i → IsAtRest (store.seen s) i
    pub looked : IsTrue store.tells → IsLook names (store.seen s) look

  -- a new folder at rest
  pub record IsBegun (names : Names) (s : S) : Type 0 where
    pub rests : (i : Image) → MayLeaveNow store s i → IsAtRest (store.seen s) i
    pub is : IsTrue store.tells → is_new (read_in names (store.seen s)) ≡ true

  -- ---- what a stop leaves

  -- a folder that holds the same as reads gave when the call began
  abbrev pub HoldsFound : Names → S → S → Type 0
  HoldsFound names old new = EachMoment store old new (λ i. NoChances names i → found (folder_in names i) ≡ found (read_in names (store.seen old)))

  -- what a stop might have left before, or a folder that holds the same as reads gave then
  abbrev pub KeepsOpened : Names → S → S → Type 0
  KeepsOpened names old new =
      EachMoment store old new (λ i. MayLeaveNow store old i ⊎ (IsTrue store.tells × (NoChances names i → found (folder_in names i) ≡ found (read_in names (store.seen old)))))

  -- A queue that each image holds when the call begins, and that reads give, is kept at each moment.
  abbrev pub OpeningKeeps : Names → S → S → Type 0
  OpeningKeeps names old new =
      (q : Queue) → (IsTrue store.tells → Kept q (read_in names (store.seen old))) → ((i : Image) → MayLeaveNow store old i → NoChances names i → Kept q (folder_in names i))
      → Keeps store names q old new
