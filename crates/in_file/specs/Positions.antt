-- The position that an input records: when its position file is ready for the next, and what a stop leaves.
use Rattle.std.specs.Prelude.{◌≡◌, ◌⊎◌, ◌≤◌, ℕ, Bool, IsTrue, List}
use Rattle.io_traits.specs.Reads.{bytes_of, file_length}
use Rattle.crc_frame.specs.Slots.{place_of, is_slot}
use Rattle.io_traits.specs.Images.{Image, at_rest}
use Rattle.io_traits.specs.Chance.{NoChance}
use Rattle.io_traits.specs.Tails.{passes}
use Rattle.io_traits.specs.Moments.{MayLeaveNow, EachMoment, LeavesBeside, ReadsBeside}
use Rattle.io_traits.specs.declared.stores.Store.{Ghosts as StoreWords}
use Rattle.slot_files.specs.Positions.{recorded_in}
use Rattle.slot_files.specs.PositionWrites.{IsNextTurn}
use Rattle.slot_files.specs.declared.recorded.Recorded.{Recorded}
use Rattle.slot_files.specs.declared.recorded.Recorded.TheVariants.{Position}
use Rattle.in_file.specs.Looks.{Keeps}
use Rattle.in_file.specs.Openings.{position_by}
use Rattle.in_file.specs.Views.{Watched}

-- its own file in the store
abbrev pub IsOwn : Watched → List ℕ → Type 0
IsOwn w name = name ≡ w.slot

-- what a position file records, as a stop leaves it
abbrev pub recorded_left : List ℕ → Image → Recorded
recorded_left slot i = recorded_in (bytes_of (i slot).file)

module _ {S : Type 0} (store : StoreWords S) where
  -- what is recorded, as the store reads
  abbrev pub recorded_now : Watched → S → Recorded
  recorded_now w s = recorded_in (bytes_of (store.seen s w.slot))

  -- its position is what is recorded, its turn comes next, and nothing of its position file is unsettled
  pub record IsReady (w : Watched) (s : S) : Type 0 where
    pub next : IsTrue store.tells → IsNextTurn (recorded_now w s) w.turn
    pub position : IsTrue store.tells → w.position ≡ position_by w.began (recorded_now w s)
    pub settled : (i : Image) → MayLeaveNow store s i → (name : List ℕ) → IsOwn w name → i name ≡ at_rest (store.seen s name)

  -- What a stop at any moment of an assurance leaves: the old position or the new one, if no slot stands by chance; and all other files as they might
  -- have been left before.
  pub record LeavesOldOrNew (w : Watched) (position : ℕ) (s : S) (i : Image) : Type 0 where
    pub own : NoChance (passes (is_slot 24)) (i w.slot) → (recorded_left w.slot i ≡ recorded_now w s) ⊎ (recorded_left w.slot i ≡ Position w.turn position)
    pub beside : LeavesBeside store (IsOwn w) s i

  abbrev pub AssureLeaves : Watched → ℕ → S → S → Type 0
  AssureLeaves w position old new = IsReady w old → EachMoment store old new (LeavesOldOrNew w position old)

  -- after an assurance
  pub record IsAssured (w : Watched) (position : ℕ) (later : Watched) (new : S) : Type 0 where
    pub ready : IsReady later new
    pub recorded : IsTrue store.tells → recorded_now later new ≡ Position w.turn position

  -- ---- laws

  -- an input that is ready has room in its position file for its next slot
  abbrev pub ReadyHasRoom : Type 0
  ReadyHasRoom = (w : Watched) (s : S) → IsReady w s → IsTrue store.tells → place_of 24 w.turn ≤ file_length (store.seen s w.slot)

  -- polls and lines leave an input ready
  abbrev pub KeptReady : Type 0
  KeptReady = (before after : Watched) (s : S) → Keeps before after → IsReady before s → IsReady after s

  -- files of others, by a test
  abbrev pub IsApart : (List ℕ → Bool) → Watched → Type 0
  IsApart others w = (name : List ℕ) → IsOwn w name → IsTrue (others name) → ⊥

  -- whatever a stop leaves while others change their files, what was recorded stands
  abbrev pub StandsBeside : Type 0
  StandsBeside =
      (others : List ℕ → Bool) (w : Watched) (s : S) (i : Image) → IsReady w s → IsApart others w → IsTrue store.tells → LeavesBeside store (λ name. IsTrue (others name)) s i
      → recorded_left w.slot i ≡ recorded_now w s

  -- and the input is ready when they are done
  abbrev pub StaysReady : Type 0
  StaysReady =
      (others : List ℕ → Bool) (w : Watched) (old new : S) → IsReady w old → IsApart others w → ((i : Image) → MayLeaveNow store new i → LeavesBeside store (λ name. IsTrue (others name)) old i)
      → ReadsBeside store (λ name. IsTrue (others name)) old new → IsReady w new
