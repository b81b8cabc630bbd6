-- A queue as it is opened.
use Rattle.std.specs.Prelude.{◌≡◌, ℕ, zero, suc, ◌+◌, ◌-◌, nat_lt, IsTrue, Bool, List, [], ◌∷◌, length, Result, Ok, Err}
use Rattle.io_traits.specs.declared.stores.Store.{Ghosts as StoreWords}
use Rattle.io_traits.specs.declared.queue_faults.QueueFault.{QueueFault}
use Rattle.queue_files.specs.Folders.{page, Folder, names_in}
use Rattle.queue_files.specs.Found.{Found, found}
use Rattle.queue_files.specs.Kept.{Queue, leading}
use Rattle.queue_page.specs.Views.{PageView}
use Rattle.queue_files.specs.Collected.{IsLost}
use Rattle.queue_files.specs.Known.{IsOfFolder}
use Rattle.queue_files.specs.Marks.{read_in}
use Rattle.queue_files.specs.Queues.{IsQueueOf}
use Rattle.queue_files.specs.declared.opening.OpenedQueue.{OpenedQueue}
use Rattle.queue_files.specs.declared.sealed_pages.SealedPage.{SealedPage}
use Rattle.queue_core.specs.Calls.{end_of}
use Rattle.queue_core.specs.Opens.{Opens}
use Rattle.queue_core.specs.Views.{OpenPageView, CursorView, QueueView}
use Rattle.queue_core.specs.declared.limits.Limits.{Limits}

-- ---- what is made of the pages that were read

-- of so many rows, the first of which has this number, those are acknowledged that are below another
abbrev pub below_number : ℕ → ℕ → ℕ → List Bool
below_number from number zero = []
below_number from number (suc count) = nat_lt number from ∷ below_number from (suc number) count

-- a page, of which a slot of this turn says which number is the first that isn't acknowledged
abbrev pub page_opened : List ℕ → ℕ → ℕ → ℕ → PageView → OpenPageView
page_opened folder number turn first_open view = record {
  number = number;
  file = names_in folder (page number);
  page = view;
  acknowledged = below_number first_open view.state.least view.state.count;
  from = first_open;
  turn = turn;
}

abbrev pub tails_opened : List ℕ → List SealedPage → List PageView → List OpenPageView
tails_opened folder [] views = []
tails_opened folder (t ∷ tails) [] = []
tails_opened folder (t ∷ tails) (view ∷ views) = page_opened folder t.number t.turn t.state.first_open view ∷ tails_opened folder tails views

-- how many rows of a page come from the first on that isn't acknowledged
abbrev pub unread_of : OpenPageView → ℕ
unread_of o = o.page.state.count - leading o.acknowledged

abbrev pub unread_in : List OpenPageView → ℕ
unread_in [] = 0
unread_in (o ∷ tails) = unread_of o + unread_in tails

-- the next row is the first of the first page, whose rows stand behind its version; nothing was read of it yet
abbrev pub cursor_at : OpenPageView → CursorView
cursor_at o = record { page = o.number; number = o.page.state.least; place = 1; block = record { place = 0; bytes = [] }; kept = [] }

abbrev pub first_of : List OpenPageView → OpenPageView → OpenPageView
first_of [] top = top
first_of (o ∷ tails) top = o

abbrev pub queue_with : List ℕ → Limits → List OpenPageView → OpenPageView → QueueView
queue_with folder limits tails top = record { folder = folder; limits = limits; tails = tails; top = top; unread = unread_in tails + unread_of top; cursor = cursor_at (first_of tails top) }

-- the queue of a folder of which this was read
abbrev pub queue_opened : List ℕ → Limits → OpenedQueue → QueueView
queue_opened folder limits o =
    queue_with folder limits (tails_opened folder o.pages.tails.items o.pages.pages.items) (page_opened folder o.state.page o.turn o.state.first_open o.pages.top)

-- ---- what an opening answers

-- The folder says all of this queue. It holds rows: they are as many as the queue has unread, and behind them comes the number of its next row.
pub record IsQueueOpened (folder : List ℕ) (limits : Limits) (f : Folder) (q : QueueView) : Type 0 where
  pub opened : OpenedQueue
  pub reads : IsOfFolder f opened
  pub is : q ≡ queue_opened folder limits opened
  pub rows : Found
  pub is_found : found f ≡ Ok rows
  pub unread : q.unread ≡ length rows.rows
  pub next : rows.next ≡ end_of q.top

abbrev pub FindsQueue : List ℕ → Limits → Folder → Result QueueView QueueFault → Type 0
FindsQueue folder limits f (Ok q) = IsQueueOpened folder limits f q
FindsQueue folder limits f (Err fault) = IsLost (names_in folder) fault (found f)

module _ {S : Type 0} (store : StoreWords S) where
  -- a queue of which the store holds pages as this queue opens them
  pub record OpensAs (v : QueueView) (o : OpenedQueue) (old new : S) : Type 0 where
    pub queue : Queue
    pub is : IsQueueOf (read_in (names_in v.folder) (store.seen old)) o queue
    pub opens : Opens store v queue new

  -- The queue has this folder and these limits, and the store holds it.
  pub record OpensFolder (folder : List ℕ) (limits : Limits) (old new : S) (v : QueueView) : Type 0 where
    pub opened : OpenedQueue
    pub is : v ≡ queue_opened folder limits opened
    pub reads : IsTrue store.tells → IsOfFolder (read_in (names_in folder) (store.seen old)) opened
    pub ready : IsTrue store.tells → OpensAs v opened old new
