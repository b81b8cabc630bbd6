-- What a reading of the pages of a folder answers, and what a stop leaves of it.
use Rattle.std.specs.Prelude.{◌≡◌, ◌≤◌, ◌<◌, ◌+◌, ℕ, suc, true, IsTrue, List, [], ◌∷◌, map, None, IsSome, Result, Ok, Err}
use Rattle.io_traits.specs.Images.{Image, IsAtRest}
use Rattle.io_traits.specs.Moments.{MayLeaveNow, EachMoment}
use Rattle.io_traits.specs.declared.stores.Store.{Ghosts as StoreWords}
use Rattle.io_traits.specs.declared.queue_faults.QueueFault.{QueueFault}
use Rattle.io_traits.specs.declared.pages.PageState.{PageState}
use Rattle.queue_page.specs.Elements.{and_then}
use Rattle.queue_files.specs.Folders.{Names, head, page, Folder, folder_in}
use Rattle.queue_files.specs.Checkpoints.{told}
use Rattle.queue_files.specs.Found.{Damaged, Found, head_held, found_in, found}
use Rattle.queue_files.specs.Collected.{IsLost}
use Rattle.queue_files.specs.Marks.{read_in, NoChances}
use Rattle.queue_files.specs.Opening.{held_tail, held_of, view_at, views_of}
use Rattle.queue_files.specs.declared.page_scan.PagesBelow.{PagesBelow}
use Rattle.queue_files.specs.declared.scanned.Scanned.{Scanned}

-- what a folder holds whose head slot says this, and that has the pages of these numbers below
abbrev pub found_of : Folder → PageState → List ℕ → Result Found Damaged
found_of folder s numbers = and_then (held_of folder numbers) (found_in (head_held folder s))

-- these are its pages below the head
pub record IsBelow (folder : Folder) (numbers : List ℕ) (r : PagesBelow) : Type 0 where
  pub tails : held_of folder numbers ≡ Ok (map (held_tail folder) r.tails.items)
  pub pages : views_of folder r.tails.items ≡ Ok r.pages.items

abbrev pub FindsBelow : Names → Folder → PageState → List ℕ → Result PagesBelow QueueFault → Type 0
FindsBelow names folder s numbers (Ok r) = IsBelow folder numbers r
FindsBelow names folder s numbers (Err fault) = IsLost names fault (found_of folder s numbers)

-- these are its pages, and it holds rows, behind which comes this number
pub record IsScanned (folder : Folder) (s : PageState) (numbers : List ℕ) (r : Scanned) : Type 0 where
  pub tails : held_of folder numbers ≡ Ok (map (held_tail folder) r.tails.items)
  pub pages : views_of folder r.tails.items ≡ Ok r.pages.items
  pub top : view_at true (head_held folder s) ≡ Ok r.top
  pub rows : Found
  pub is_found : found_of folder s numbers ≡ Ok rows
  pub next : rows.next ≡ r.top.state.least + r.top.state.count
  pub recorded : rows.recorded ≡ s.least + s.count

abbrev pub FindsScanned : Names → Folder → PageState → List ℕ → Result Scanned QueueFault → Type 0
FindsScanned names folder s numbers (Ok r) = IsScanned folder s numbers r
FindsScanned names folder s numbers (Err fault) = IsLost names fault (found_of folder s numbers)

-- ---- the pages that stand

-- these are the numbers from one on, and below an end, of which a page stands, in rising order
abbrev pub AreStanding : ℕ → ℕ → Folder → List ℕ → Type 0
AreStanding from end folder [] = (n : ℕ) → from ≤ n → n < end → folder (page n) ≡ None
AreStanding from end folder (m ∷ numbers) =
    (from ≤ m) × (m < end) × IsSome (folder (page m)) × ((n : ℕ) → from ≤ n → n < m → folder (page n) ≡ None) × AreStanding (suc m) end folder numbers

-- What is read of the pages that stand below the head is what the folder holds.
abbrev pub PagesAreFound : Type 0
PagesAreFound =
    (folder : Folder) (s : PageState) (numbers : List ℕ) → told (folder head) ≡ Ok s → AreStanding 0 s.page folder numbers → found folder ≡ found_of folder s numbers

module _ {S : Type 0} (store : StoreWords S) where
  -- Of a folder at rest whose head slot says this, a stop at any moment leaves one that holds the same.
  abbrev pub KeepsFound : Names → PageState → S → S → Type 0
  KeepsFound names s old new =
      ((i : Image) → MayLeaveNow store old i → IsAtRest (store.seen old) i) → (IsTrue store.tells → told (store.seen old (names head)) ≡ Ok s)
      → EachMoment store old new (λ i. NoChances names i → found (folder_in names i) ≡ found (read_in names (store.seen old)))
