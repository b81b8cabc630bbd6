-- An output file that is open on a store: when it is ready for a batch, and what a stop leaves.
use Rattle.std.specs.Prelude.{◌≡◌, ◌≢◌, ◌⊎◌, ◌<◌, ◌≤◌, ◌^◌, ℕ, Bool, IsTrue, List, ◌++◌}
use Rattle.io_traits.specs.Reads.{bytes_of, file_length}
use Rattle.crc_frame.specs.Slots.{place_of, is_slot, next_turn}
use Rattle.io_traits.specs.Images.{Image, at_rest}
use Rattle.io_traits.specs.Chance.{NoChance}
use Rattle.io_traits.specs.Tails.{passes}
use Rattle.io_traits.specs.Moments.{MayLeaveNow, NowOrSynced, EachMoment, LeavesBeside, ReadsBeside}
use Rattle.io_traits.specs.declared.stores.Store.{Ghosts as StoreWords}
use Rattle.slot_files.specs.Positions.{recorded_in}
use Rattle.slot_files.specs.declared.recorded.Recorded.TheVariants.{Position}
use Rattle.slot_files.specs.Views.{Output, IsOwn}
use Rattle.slot_files.specs.Contents.{Stands, Holds}

module _ {S : Type 0} (store : StoreWords S) where
  -- its position is recorded, its file ends there, and nothing of the two is unsettled
  pub record IsReady (out : Output) (s : S) : Type 0 where
    pub differ : out.path ≢ out.slot
    pub turn_fits : out.turn < 2 ^ 64
    pub recorded : IsTrue store.tells → recorded_in (bytes_of (store.seen s out.slot)) ≡ Position out.turn out.position
    pub ends : IsTrue store.tells → file_length (store.seen s out.path) ≡ out.position
    pub settled : (i : Image) → MayLeaveNow store s i → (name : List ℕ) → IsOwn out name → i name ≡ at_rest (store.seen s name)

  -- what it holds
  abbrev pub content_of : Output → S → List ℕ
  content_of out s = bytes_of (store.seen s out.path)

  -- What a stop at any moment of an append leaves: the old content or that with the batch, each with its recorded position, if no slot stands by
  -- chance; and all other files as they might have been left before.
  pub record LeavesOldOrNew (out : Output) (batch : List ℕ) (s : S) (i : Image) : Type 0 where
    pub own : NoChance (passes (is_slot 24)) (i out.slot) → Stands out.path out.slot (content_of out s) i ⊎ Stands out.path out.slot (content_of out s ++ batch) i
    pub beside : LeavesBeside store (IsOwn out) s i

  abbrev pub AppendLeaves : Output → List ℕ → S → S → Type 0
  AppendLeaves out batch old new = IsReady out old → EachMoment store old new (LeavesOldOrNew out batch old)

  -- after an append
  pub record IsAppended (out : Output) (batch : List ℕ) (old : S) (grown : Output) (new : S) : Type 0 where
    pub ready : IsReady grown new
    pub content : IsTrue store.tells → content_of grown new ≡ content_of out old ++ batch

  -- What a stop at any moment of an opening leaves: what the files held when it began, or as they were read then, they hold still, if no slot
  -- stands by chance; and all other files are as they were then.
  pub record LeavesHeld (path slot : List ℕ) (s : S) (i : Image) : Type 0 where
    pub from : Image
    pub was : NowOrSynced store s from
    pub own : (bytes : List ℕ) → Holds path slot bytes from → NoChance (passes (is_slot 24)) (i slot) → Holds path slot bytes i
    pub beside : (name : List ℕ) → name ≢ path → name ≢ slot → i name ≡ from name

  -- ---- laws

  -- an output that is ready has room in its position file for the slot of its next batch
  abbrev pub ReadyHasRoom : Type 0
  ReadyHasRoom = (out : Output) (s : S) → IsReady out s → IsTrue store.tells → place_of 24 (next_turn out.turn) ≤ file_length (store.seen s out.slot)

  -- files of others, by a test
  abbrev pub IsApart : (List ℕ → Bool) → Output → Type 0
  IsApart others out = (name : List ℕ) → IsOwn out name → IsTrue (others name) → ⊥

  -- whatever a stop leaves while others change their files, an output that was ready has its content
  abbrev pub StandsBeside : Type 0
  StandsBeside =
      (others : List ℕ → Bool) (out : Output) (s : S) (i : Image) → IsReady out s → IsApart others out → IsTrue store.tells → LeavesBeside store (λ name. IsTrue (others name)) s i
      → Stands out.path out.slot (content_of out s) i

  -- and it is ready when they are done
  abbrev pub StaysReady : Type 0
  StaysReady =
      (others : List ℕ → Bool) (out : Output) (old new : S) → IsReady out old → IsApart others out → ((i : Image) → MayLeaveNow store new i → LeavesBeside store (λ name. IsTrue (others name)) old i)
      → ReadsBeside store (λ name. IsTrue (others name)) old new → IsReady out new
