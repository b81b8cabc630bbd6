-- A reader that is ready on a store, and what a stop leaves of the place that it records.
use Rattle.std.specs.Prelude.{◌≡◌, ◌⊎◌, ℕ, IsTrue, List}
use Rattle.io_traits.specs.Reads.{bytes_of}
use Rattle.crc_frame.specs.Slots.{is_slot}
use Rattle.io_traits.specs.Images.{Image, at_rest}
use Rattle.io_traits.specs.Chance.{NoChance}
use Rattle.io_traits.specs.Tails.{passes}
use Rattle.io_traits.specs.Moments.{MayLeaveNow, LeavesBeside}
use Rattle.io_traits.specs.declared.stores.Store.{Ghosts as StoreWords}
use Rattle.dead_letters.specs.Segments.{counted_in}
use Rattle.dead_letters.specs.declared.segments.Counted.{Counted}
use Rattle.dead_letters.specs.declared.rows.DeadRow.{DeadRow}
use Rattle.dead_letter_reader.specs.Places.{Passes, Rise}
use Rattle.dead_letter_reader.specs.Work.{IsSending, Work}

module _ {S : Type 0} (store : StoreWords S) where
  -- a file says this, and nothing of it is unsettled
  pub record Says (file : List ℕ) (recorded : Counted) (s : S) : Type 0 where
    pub said : IsTrue store.tells → counted_in (bytes_of (store.seen s file)) ≡ recorded
    pub rests : (i : Image) → MayLeaveNow store s i → i file ≡ at_rest (store.seen s file)

  -- it is under way, its file says what it recorded, and the place there passes only letters that were answered Assured
  pub record IsReady (w : Work) (s : S) : Type 0 where
    pub sending : IsSending w
    pub rise : IsTrue store.tells → Rise w.rows
    pub passes : IsTrue store.tells → Passes w.rows w.done w.recorded
    pub file : Says w.file w.recorded s

  -- a stop leaves that the file says one or the other, if no slot stands by chance; and all other files as they might have been left before
  pub record LeavesEither (file : List ℕ) (one other : Counted) (s : S) (i : Image) : Type 0 where
    pub own : NoChance (passes (is_slot 32)) (i file) → (counted_in (bytes_of (i file).file) ≡ one) ⊎ (counted_in (bytes_of (i file).file) ≡ other)
    pub beside : LeavesBeside store (λ name. name ≡ file) s i

  -- What a stop leaves: a place that passes only the first of these letters, so many at most, if no slot stands by chance; and all other files as they might have been left
  -- before.
  pub record LeavesPlace (file : List ℕ) (rows : List DeadRow) (done : ℕ) (s : S) (i : Image) : Type 0 where
    pub own : NoChance (passes (is_slot 32)) (i file) → Passes rows done (counted_in (bytes_of (i file).file))
    pub beside : LeavesBeside store (λ name. name ≡ file) s i
