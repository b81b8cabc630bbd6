-- What a stop may leave of a file whose front is settled, and of a slot that says how much of another file is.
use Rattle.std.specs.Prelude.{◌≡◌, ◌≢◌, ◌⊎◌, ◌≤◌, ◌<◌, ℕ, ◌+◌, ◌-◌, ◌++◌, Bool, IsTrue, List, length, take, Option, Some}
use Rattle.io_traits.specs.Reads.{bytes_of}
use Rattle.io_traits.specs.Images.{Image, FileImage, Among, at_rest, overlaid}
use Rattle.io_traits.specs.Chance.{NoChance, StandsAt}
use Rattle.io_traits.specs.Moments.{MayLeaveNow, EachMoment}
use Rattle.io_traits.specs.declared.stores.Store.{Ghosts as StoreWords}

-- a frame, by a test
abbrev pub passes : (ℕ → List ℕ → Bool) → ℕ → List ℕ → Type 0
passes is_frame place frame = IsTrue (is_frame place frame)

-- this front stands, and behind it no frame but those of the tail, each at its own place
pub record HoldsTail (is_frame : ℕ → List ℕ → Bool) (front tail : List ℕ) (f : FileImage) : Type 0 where
  pub stands : take (length front) (bytes_of f.file) ≡ front
  pub only : (place : ℕ) (frame : List ℕ) → length front ≤ place → passes is_frame place frame → 0 < length frame → StandsAt place frame (bytes_of f.file) → StandsAt (place - length front) frame tail

-- a write that was an append of a part of the tail
pub record WasAppended (front tail : List ℕ) (w : ℕ × List ℕ) : Type 0 where
  pub before : List ℕ
  pub behind : List ℕ
  pub part : tail ≡ before ++ (w.1 ++ behind)
  pub place : w.0 ≡ length front + length before

-- a file with a front that is settled, and a tail behind it of which a sync may have settled the first bytes
pub record TailImage (front tail : List ℕ) (f : FileImage) : Type 0 where
  pub taken : List ℕ
  pub left : List ℕ
  pub parts : tail ≡ taken ++ left
  pub settled : f.settled ≡ Some (front ++ taken)
  pub stands : take (length front) (bytes_of f.file) ≡ front
  pub writes : (w : ℕ × List ℕ) → Among f.writes w → WasAppended front tail w

-- where the slot stands whole, it stood there before, or the page is at rest with these rows
pub record SlotIsTrue (page rows head : List ℕ) (at : ℕ) (slot : List ℕ) (slots : Option (List ℕ)) (i : Image) : Type 0 where
  pub each : StandsAt at slot (bytes_of (i head).file) → StandsAt at slot (bytes_of slots) ⊎ (i page ≡ at_rest (Some rows))

module _ {S : Type 0} (store : StoreWords S) where
  -- a file is at rest, with these bytes
  pub record IsSettled (s : S) (name bytes : List ℕ) : Type 0 where
    pub images : (i : Image) → MayLeaveNow store s i → i name ≡ at_rest (Some bytes)
    pub seen : IsTrue store.tells → store.seen s name ≡ Some bytes

  -- a file has this front, which is settled, and behind it a tail that need not be
  pub record HasTail (s : S) (name front tail : List ℕ) : Type 0 where
    pub images : (i : Image) → MayLeaveNow store s i → TailImage front tail (i name)
    pub seen : IsTrue store.tells → store.seen s name ≡ Some (front ++ tail)

  -- the file of this name holds this front and no frame behind it but those of this tail, where no frame stands by chance
  abbrev pub HoldsNamed : (ℕ → List ℕ → Bool) → List ℕ → List ℕ → List ℕ → Image → Type 0
  HoldsNamed is_frame name front tail i = NoChance (passes is_frame) (i name) → HoldsTail is_frame front tail (i name)

  -- with bytes appended: at each moment of the run no frame stands behind the front but those of the tail with these bytes
  abbrev pub HoldsAppended : List ℕ → List ℕ → S → S → Type 0
  HoldsAppended name bytes old new = (is_frame : ℕ → List ℕ → Bool) (front tail : List ℕ) → HasTail old name front tail → EachMoment store old new (HoldsNamed is_frame name front (tail ++ bytes))

  -- the tail has these bytes more
  abbrev pub AddsToTail : List ℕ → List ℕ → S → S → Type 0
  AddsToTail name bytes old new = (front tail : List ℕ) → HasTail old name front tail → HasTail new name front (tail ++ bytes)

  -- the front, the tail and these bytes are settled
  abbrev pub SettlesAppended : List ℕ → List ℕ → S → S → Type 0
  SettlesAppended name bytes old new = (front tail : List ℕ) → HasTail old name front tail → IsSettled new name (front ++ (tail ++ bytes))

  -- with a cut behind the front: at each moment no frame stands there but those of the tail
  abbrev pub HoldsCut : List ℕ → ℕ → S → S → Type 0
  HoldsCut name len old new = (is_frame : ℕ → List ℕ → Bool) (front tail : List ℕ) → HasTail old name front tail → len ≡ length front → EachMoment store old new (HoldsNamed is_frame name front tail)

  -- the front is settled, and nothing is behind it
  abbrev pub SettlesFront : List ℕ → ℕ → S → S → Type 0
  SettlesFront name len old new = (front tail : List ℕ) → HasTail old name front tail → len ≡ length front → IsSettled new name front

  -- the slot stands in its file, which is at rest
  abbrev pub SettlesSlot : List ℕ → ℕ → List ℕ → S → S → Type 0
  SettlesSlot head at slot old new = IsSettled new head (overlaid at slot (bytes_of (store.seen old head)))

  -- a slot that stands whole at any moment of a run stood there before, or what another file read as when the run began is at rest
  abbrev pub SlotFollows : List ℕ → ℕ → List ℕ → S → S → Type 0
  SlotFollows head at slot old new = (page rows : List ℕ) (slots : Option (List ℕ)) → page ≢ head → (IsTrue store.tells → store.seen old page ≡ Some rows) → ((i : Image) → MayLeaveNow store old i → i head ≡ at_rest slots)
      → EachMoment store old new (SlotIsTrue page rows head at slot slots)
