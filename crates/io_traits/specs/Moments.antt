-- What holds of the images of each moment of a call.
use Rattle.std.specs.Prelude.{◌≡◌, ◌⊎◌, ◌≤◌, ℕ, List, IsTrue}
use Rattle.io_traits.specs.Images.{Image, IsAtRest}
use Rattle.io_traits.specs.declared.stores.Store.{Ghosts as StoreWords}

module _ {S : Type 0} (store : StoreWords S) where
  -- a law of every store: one that doesn't tell its content has no image at any moment
  abbrev pub ImagesTell : Type 0
  ImagesTell = (s : S) (t : ℕ) (i : Image) → store.may_leave s t i → IsTrue store.tells

  -- what a stop may leave now
  abbrev pub MayLeaveNow : S → Image → Type 0
  MayLeaveNow s i = store.may_leave s (store.moment s) i

  -- an image of now, or what reads give now, at rest
  abbrev pub NowOrSynced : S → Image → Type 0
  NowOrSynced s i = MayLeaveNow s i ⊎ (IsTrue store.tells × IsAtRest (store.seen s) i)

  -- a stop at any moment of a call, from its beginning to its end, leaves an image that has P
  pub record EachMoment (old new : S) (P : Image → Type 0) : Type 0 where
    pub later : store.moment old ≤ store.moment new
    pub each : (t : ℕ) (i : Image) → store.moment old ≤ t → t ≤ store.moment new → store.may_leave new t i → P i
    -- what a stop may have left before it
    pub past : (t : ℕ) (i : Image) → t ≤ store.moment old → store.may_leave new t i → store.may_leave old t i

  -- but for the files that are Mine, an image is one of the moment when the call began, or what was read then, at rest: a sync settles all files of a store
  abbrev pub LeavesBeside : (List ℕ → Type 0) → S → Image → Type 0
  LeavesBeside Mine s i = (d : Image) × NowOrSynced s d × ((name : List ℕ) → (Mine name → ⊥) → i name ≡ d name)

  -- all files but those that are Mine read as before
  abbrev pub ReadsBeside : (List ℕ → Type 0) → S → S → Type 0
  ReadsBeside Mine old new = IsTrue store.tells → (name : List ℕ) → (Mine name → ⊥) → store.seen new name ≡ store.seen old name
