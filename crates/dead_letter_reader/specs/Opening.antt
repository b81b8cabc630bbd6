-- What an opening finds, and what a stop leaves of it.
use Rattle.std.specs.Prelude.{◌≡◌, ◌⊎◌, ℕ, IsTrue, List, Option, Ok, Err}
use Rattle.io_traits.specs.Folders.{Content}
use Rattle.io_traits.specs.Reads.{bytes_of}
use Rattle.io_traits.specs.Images.{Image}
use Rattle.io_traits.specs.Moments.{NowOrSynced, LeavesBeside}
use Rattle.io_traits.specs.declared.stores.Store.{Ghosts as StoreWords}
use Rattle.io_traits.specs.declared.queue_faults.Damage.{Damage}
use Rattle.slot_files.specs.Contents.{damage}
use Rattle.dead_letters.specs.Found.{Held, found}
use Rattle.dead_letters.specs.Opening.{HoldsStill}
use Rattle.dead_letters.specs.Rows.{rows_of}
use Rattle.dead_letters.specs.Segments.{counted_in}
use Rattle.dead_letters.specs.Views.{IsOwn}
use Rattle.dead_letters.specs.declared.rows.DeadRow.{DeadRow}
use Rattle.dead_letter_reader.specs.Names.{place_file}
use Rattle.dead_letter_reader.specs.Places.{place_in, rows_behind}
use Rattle.dead_letter_reader.specs.declared.place.LetterPosition.{LetterPosition}

-- the letters of the queue of a folder
pub record AreAll (folder : List ℕ) (content : Content) (rows : List DeadRow) : Type 0 where
  pub held : Held
  pub found_is : found folder content ≡ Ok held
  pub are : rows_of folder held ≡ Ok rows

-- the letters of the queue of a folder that stand behind the place which is recorded
pub record AreLeft (folder : List ℕ) (content : Content) (rows : List DeadRow) : Type 0 where
  pub all : List DeadRow
  pub are : AreAll folder content all
  pub recorded_at : Option LetterPosition
  pub place_is : place_in (counted_in (bytes_of (content (place_file folder)))) ≡ Ok recorded_at
  pub left : rows ≡ rows_behind recorded_at all

-- the queue is damaged, or a letter of it, or the file of the place
pub data IsDamaged (folder : List ℕ) (content : Content) (d : Damage) : Type 0 where
  queue : found folder content ≡ Err d → IsDamaged folder content d
  letter : (held : Held) → found folder content ≡ Ok held → rows_of folder held ≡ Err d → IsDamaged folder content d
  place : (pair : ℕ × ℕ) → place_in (counted_in (bytes_of (content (place_file folder)))) ≡ Err pair → d ≡ damage (place_file folder) 0 pair.0 pair.1 → IsDamaged folder content d

module _ {S : Type 0} (store : StoreWords S) where
  -- What a stop at any moment of an opening leaves: an image of the moment when it began, or what was read then, at rest; or a queue that holds what it held as it was read then,
  -- if no slot stands by chance, and all other files as they might have been left before.
  pub record LeavesQueue (folder : List ℕ) (s : S) (i : Image) : Type 0 where
    pub own : NowOrSynced store s i ⊎ (IsTrue store.tells × HoldsStill folder (store.seen s) i)
    pub beside : LeavesBeside store (IsOwn folder) s i
