-- What an opening leaves.
use Rattle.std.specs.Prelude.{◌≡◌, ◌⊎◌, ◌<◌, ◌^◌, IsTrue, List, ℕ, None, Ok}
use Rattle.io_traits.specs.Folders.{Content}
use Rattle.crc_frame.specs.Slots.{is_slot}
use Rattle.io_traits.specs.Images.{Image}
use Rattle.io_traits.specs.Chance.{NoChance}
use Rattle.io_traits.specs.Tails.{passes}
use Rattle.io_traits.specs.Moments.{MayLeaveNow, NowOrSynced, EachMoment, LeavesBeside}
use Rattle.io_traits.specs.declared.stores.Store.{Ghosts as StoreWords}
use Rattle.slot_files.specs.Contents.{left_in}
use Rattle.dead_letters.specs.Queues.{segment, names, position, name_in}
use Rattle.dead_letters.specs.Found.{Held, found}
use Rattle.dead_letters.specs.Views.{DeadQueue, IsOwn, last_of}

-- no slot stands by chance, of the file that names segments or of the position file
abbrev pub NoChances : List ℕ → Image → Type 0
NoChances folder i = NoChance (passes (is_slot 32)) (i (name_in folder names)) × NoChance (passes (is_slot 24)) (i (name_in folder position))

-- what a folder holds it holds still
abbrev pub HoldsStill : List ℕ → Content → Image → Type 0
HoldsStill folder content i = (h : Held) → found folder content ≡ Ok h → NoChances folder i → found folder (left_in i) ≡ Ok h

-- no segment stands but those of the queue
abbrev pub IsCleared : DeadQueue → Content → Type 0
IsCleared q content = (n : ℕ) → n < 2 ^ 32 → (n < q.first) ⊎ (last_of q < n) → content (name_in q.folder (segment n)) ≡ None

module _ {S : Type 0} (store : StoreWords S) where
  -- What a stop at any moment of an opening leaves: an image of the moment when it began, or a folder that holds what it held as it was read then, if no slot
  -- stands by chance; and all other files as they might have been left before.
  pub record LeavesHeld (folder : List ℕ) (s : S) (i : Image) : Type 0 where
    pub own : MayLeaveNow store s i ⊎ (IsTrue store.tells × HoldsStill folder (store.seen s) i)
    pub beside : LeavesBeside store (IsOwn folder) s i

  -- ---- laws

  -- what the folder holds whatever a stop leaves before an opening, and as it is read then, it holds at each moment of it, if no slot stands by chance
  abbrev pub OpeningKeeps : Type 0
  OpeningKeeps =
      (folder : List ℕ) (h : Held) (old new : S) → EachMoment store old new (LeavesHeld folder old) → ((i : Image) → NowOrSynced store old i → NoChances folder i → found folder (left_in i) ≡ Ok h)
      → EachMoment store old new (λ i. NoChances folder i → found folder (left_in i) ≡ Ok h)
