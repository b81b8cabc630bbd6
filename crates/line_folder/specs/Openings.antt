-- A folder that is opened: its queue, and then its dead letters.
use Rattle.std.specs.Prelude.{◌≡◌, ◌⊎◌, List, ℕ, Ok, Err}
use Rattle.io_traits.specs.Folders.{Content}
use Rattle.io_traits.specs.Images.{Image}
use Rattle.io_traits.specs.Moments.{EachMoment, LeavesBeside, NowOrSynced, ReadsBeside}
use Rattle.io_traits.specs.declared.queue_faults.Damage.{Damage}
use Rattle.io_traits.specs.declared.queue_faults.QueueFault.TheVariants as f
use Rattle.io_traits.specs.declared.stores.Store.{Ghosts as StoreWords}
use Rattle.slot_files.specs.Contents.{left_in}
use Rattle.dead_letters.specs.Found.{Held, found as letters_found}
use Rattle.dead_letters.specs.Opening.{LeavesHeld, NoChances}
use Rattle.dead_letters.specs.Views.{IsOwn as IsOfLetters}
use Rattle.queue_files.specs.Collected.{IsLost}
use Rattle.queue_files.specs.Folders.{IsOwn as IsOfQueue, names_in}
use Rattle.queue_files.specs.Found.{found as queue_found}
use Rattle.queue_files.specs.Marks.{read_in}
use Rattle.queue_files.specs.Opened.{KeepsOpened, OpeningKeeps}

-- a file of the queue, or of the dead letters
abbrev pub IsOfEither : List ℕ → List ℕ → Type 0
IsOfEither folder name = IsOfQueue (names_in folder) name ⊎ IsOfLetters folder name

-- the damage that is found first in the queue, or the one in the dead letters
abbrev pub FindsDamage : List ℕ → Content → Damage → Type 0
FindsDamage folder content damage = IsLost (names_in folder) (f.Damaged damage) (queue_found (read_in (names_in folder) content)) ⊎ (letters_found folder content ≡ Err damage)

module _ {S : Type 0} (store : StoreWords S) where
  -- what a stop leaves of the queue while it is opened, and of the letters while they are, which comes behind that
  pub record OpensInTurn (folder : List ℕ) (old new : S) : Type 0 where
    pub between : S
    pub queue : KeepsOpened store (names_in folder) old between
    pub queue_kept : OpeningKeeps store (names_in folder) old between
    pub queue_beside : EachMoment store old between (LeavesBeside store (IsOfQueue (names_in folder)) old)
    pub queue_reads : ReadsBeside store (IsOfQueue (names_in folder)) old between
    pub letters : EachMoment store between new (LeavesHeld store folder between)
    pub letters_reads : ReadsBeside store (IsOfLetters folder) between new

  -- what the letters hold whatever a stop leaves before an opening, and as they are read then, they hold at each moment of it, if no slot stands by chance
  abbrev pub KeepsLetters : List ℕ → S → S → Type 0
  KeepsLetters folder old new =
      (h : Held) → ((i : Image) → NowOrSynced store old i → NoChances folder i → letters_found folder (left_in i) ≡ Ok h)
      → EachMoment store old new (λ i. NoChances folder i → letters_found folder (left_in i) ≡ Ok h)
