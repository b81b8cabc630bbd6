-- What is known of a folder that was opened: in any case, of what was read of it, and of its files then.
use Rattle.std.specs.Prelude.{◌≡◌, ◌⊎◌, true, IsTrue, [], ◌∷◌, ◌++◌, length, map, None, Ok}
use Rattle.io_traits.specs.Reads.{bytes_of}
use Rattle.io_traits.specs.declared.stores.Store.{Ghosts as StoreWords}
use Rattle.io_traits.specs.declared.pages.PageState.{PageState}
use Rattle.queue_page.specs.Pages.{IsGrown}
use Rattle.queue_page.specs.Views.{PageView}
use Rattle.queue_files.specs.Folders.{head, page, Folder, Names}
use Rattle.queue_files.specs.Checkpoints.{told}
use Rattle.queue_files.specs.Found.{head_held, falling, is_new}
use Rattle.queue_files.specs.Marks.{read_in}
use Rattle.queue_files.specs.Opening.{AllBounded, held_tail}
use Rattle.queue_files.specs.Queues.{IsNewest, AreNewest}
use Rattle.queue_files.specs.Reading.{AreStanding, IsScanned}
use Rattle.queue_files.specs.declared.opening.OpenedQueue.{OpenedQueue}
use Rattle.queue_files.specs.declared.scanned.Scanned.{Scanned}

-- Pages stand as was recorded of them, and the head page so with the rows behind that. The numbers of each are above those of the pages before it.
pub record AreStated (s : PageState) (r : Scanned) : Type 0 where
  pub states : map (λ t. t.state) r.tails.items ≡ map (λ (p : PageView). p.state) r.pages.items
  pub bounded : AllBounded r.tails.items
  pub rises : (folder : Folder) → falling 0 (map (held_tail folder) r.tails.items ++ head_held folder s ∷ []) ≡ None
  pub top : IsGrown true s r.top.state

-- ---- what was read

-- the first queue: a page of version 2 without rows
pub record IsFirst (o : OpenedQueue) : Type 0 where
  pub turn : o.turn ≡ 0
  pub state : o.state ≡ record { page = 0; first_open = 1; least = 1; count = 0; length = 1 }
  pub tails : o.pages.tails.items ≡ []
  pub pages : o.pages.pages.items ≡ []
  pub top : o.pages.top ≡ record { version = 2; state = o.state }

-- the head slot and the checkpoints say this, of the pages that stand, and this was read of these
pub record IsReadOf (folder : Folder) (o : OpenedQueue) : Type 0 where
  pub tells : told (folder head) ≡ Ok o.state
  pub head_is : IsNewest (bytes_of (folder head)) o.turn o.state
  pub standing : AreStanding 0 o.state.page folder (map (λ t. t.number) o.pages.tails.items)
  pub newest : AreNewest folder o.pages.tails.items
  pub scanned : IsScanned folder o.state (map (λ t. t.number) o.pages.tails.items) o.pages

-- what a folder holds: the first queue, where it is new, and else what was read
abbrev pub IsOfFolder : Folder → OpenedQueue → Type 0
IsOfFolder folder o = ((is_new folder ≡ true) × IsFirst o) ⊎ IsReadOf folder o

-- ---- its files then

-- the same slots and pages, and the head page ends with its rows
pub record IsLeft (o : OpenedQueue) (folder : Folder) : Type 0 where
  pub head_is : IsNewest (bytes_of (folder head)) o.turn o.state
  pub standing : AreStanding 0 o.state.page folder (map (λ t. t.number) o.pages.tails.items)
  pub newest : AreNewest folder o.pages.tails.items
  pub exact : length (bytes_of (folder (page o.state.page))) ≡ o.pages.top.state.length

module _ {S : Type 0} (store : StoreWords S) where
  pub record WasOpened (names : Names) (o : OpenedQueue) (old new : S) : Type 0 where
    pub reads : IsTrue store.tells → IsOfFolder (read_in names (store.seen old)) o
    pub leaves : IsTrue store.tells → IsLeft o (read_in names (store.seen new))
