-- What a new head page and a page that goes make of the files of a queue.
use Rattle.std.specs.Prelude.{◌≡◌, ◌≢◌, ◌<◌, ℕ, suc, List, [], ◌∷◌, Some, None}
use Rattle.io_traits.specs.Reads.{bytes_of}
use Rattle.crc_frame.specs.Slots.{next_turn}
use Rattle.queue_files.specs.Folders.{Role, head, page, checkpoint, Folder}
use Rattle.queue_files.specs.Checkpoints.{told}
use Rattle.queue_files.specs.Kept.{Page, Queue, state_at, NoTail}
use Rattle.queue_files.specs.Resting.{Records}
use Rattle.queue_files.specs.Steps.{next_top}

-- the same files of each of these pages
abbrev pub SameTails : List Page → Folder → Folder → Type 0
SameTails tails a b = (n : ℕ) → (NoTail n tails → ⊥) → (b (checkpoint n) ≡ a (checkpoint n)) × (b (page n) ≡ a (page n))

-- all that a queue speaks of is the same: the pages below the head with their checkpoints, the head page, and what its checkpoint tells
pub record SameFiles (q : Queue) (a b : Folder) : Type 0 where
  pub tails : SameTails q.tails a b
  pub gone : (n : ℕ) → n < q.top.number → NoTail n q.tails → b (page n) ≡ a (page n)
  pub told_same : told (b head) ≡ told (a head)
  pub top : b (page q.top.number) ≡ a (page q.top.number)

-- The head page, of so many bytes, is sealed by the first slot of its own checkpoint; the page behind it is begun, and the head slot speaks of
-- that. All other files are the same.
pub record IsRolled (q : Queue) (len : ℕ) (a b : Folder) : Type 0 where
  pub head_slot : Records (bytes_of (b head)) (next_turn q.top.turn) (state_at (next_top q.top) (next_top q.top).from [] 1)
  pub sealed_slot : Records (bytes_of (b (checkpoint q.top.number))) 0 (state_at q.top q.top.from q.top.rows len)
  pub begun : b (page (suc q.top.number)) ≡ Some (2 ∷ [])
  pub pages : (n : ℕ) → n ≢ suc q.top.number → b (page n) ≡ a (page n)
  pub checkpoints : (n : ℕ) → n ≢ q.top.number → b (checkpoint n) ≡ a (checkpoint n)

-- the page of this number is gone; its checkpoint may be anything, and all other files are the same
pub record IsPurged (number : ℕ) (a b : Folder) : Type 0 where
  pub page_gone : b (page number) ≡ None
  pub others : (role : Role) → role ≢ page number → role ≢ checkpoint number → b role ≡ a role
