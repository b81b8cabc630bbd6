-- A slot that is written into a checkpoint file: when it is the next one, and what a stop leaves of it.
use Rattle.std.specs.Prelude.{◌≡◌, ◌⊎◌, ◌<◌, ◌≤◌, ◌^◌, ℕ, List, length, Option, Some, None}
use Rattle.io_traits.specs.Reads.{bytes_of}
use Rattle.crc_frame.specs.Slots.{is_slot, next_turn}
use Rattle.io_traits.specs.Images.{Image, at_rest}
use Rattle.io_traits.specs.Chance.{NoChance}
use Rattle.io_traits.specs.Moments.{MayLeaveNow, EachMoment}
use Rattle.io_traits.specs.Tails.{passes}
use Rattle.io_traits.specs.declared.stores.Store.{Ghosts as StoreWords}
use Rattle.io_traits.specs.declared.pages.PageState.{PageState}
use Rattle.slot_files.specs.Checkpoints.{newest_in}

-- A turn may come next in a file: 0 where no slot is intact and the file is no longer than one, and else that behind the newest.
pub data ComesNext (file : List ℕ) (turn : ℕ) : Type 0 where
  first : newest_in file ≡ None → length file ≤ 48 → turn ≡ 0 → ComesNext file turn
  next : (last : ℕ) (s : PageState) → newest_in file ≡ Some (last, s) → last < 2 ^ 64 → turn ≡ next_turn last → ComesNext file turn

-- the checkpoint file of this name says what it said before, or this
abbrev pub SaysOldOrNew : List ℕ → Option (List ℕ) → ℕ → PageState → Image → Type 0
SaysOldOrNew name slots turn s i =
    (newest_in (bytes_of (i name).file) ≡ newest_in (bytes_of slots)) ⊎ (newest_in (bytes_of (i name).file) ≡ Some (turn, s))

module _ {S : Type 0} (store : StoreWords S) where
  -- A stop at any moment of the write of a slot of the next turn into a file at rest leaves what the file said, or what the slot says, where no
  -- slot stands by chance.
  abbrev pub LeavesOldOrNew : List ℕ → ℕ → PageState → S → S → Type 0
  LeavesOldOrNew name turn s old new =
      (slots : Option (List ℕ)) → ((i : Image) → MayLeaveNow store old i → i name ≡ at_rest slots) → ComesNext (bytes_of slots) turn
      → EachMoment store old new (λ i. NoChance (passes (is_slot 48)) (i name) → SaysOldOrNew name slots turn s i)
