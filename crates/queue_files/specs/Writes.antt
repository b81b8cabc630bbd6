-- The slots that a mark writes, and what a run of them makes of a store's files.
use Rattle.std.specs.Prelude.{◌≡◌, ◌≢◌, ◌≤◌, ℕ, ⊤, IsTrue, List, [], ◌∷◌, ◌++◌, Some, if◌then◌else◌}
use Rattle.io_traits.specs.Folders.{Content}
use Rattle.io_traits.specs.Reads.{bytes_of, file_length}
use Rattle.crc_frame.specs.Slots.{place_of, with_slot}
use Rattle.io_traits.specs.Images.{Image, TornFile, On, Beside, IsAtRest}
use Rattle.io_traits.specs.Moments.{MayLeaveNow}
use Rattle.io_traits.specs.declared.stores.Store.{Ghosts as StoreWords}
use Rattle.slot_files.specs.Checkpoints.{slot_spelling}
use Rattle.queue_files.specs.declared.marking.Mark.{Mark}

pub record Write : Type 0 where
  pub name : List ℕ
  pub place : ℕ
  pub bytes : List ℕ

abbrev pub write_of : Mark → Write
write_of m = record { name = m.file; place = place_of 48 m.turn; bytes = slot_spelling m.turn m.state }

-- the write of a mark, if it is due
abbrev pub due_of : Mark → List Write
due_of m = if m.due then write_of m ∷ [] else []

abbrev pub writes_of : List Mark → List Write
writes_of [] = []
writes_of (m ∷ marks) = due_of m ++ writes_of marks

-- no write is of the name
abbrev pub IsBeside : List ℕ → List Write → Type 0
IsBeside name [] = ⊤
IsBeside name (w ∷ writes) = (name ≢ w.name) × IsBeside name writes

-- each stands within its file, or right behind it, and no two are of one file
abbrev pub CanWrite : Content → List Write → Type 0
CanWrite content [] = ⊤
CanWrite content (w ∷ writes) = (w.place ≤ file_length (content w.name)) × IsBeside w.name writes × CanWrite content writes

-- an image after the writes, of which each may be torn, or not made at all
abbrev pub MayChange : List Write → Image → Image → Type 0
MayChange [] d i = (name : List ℕ) → i name ≡ d name
MayChange (w ∷ writes) d i = (e : Image) × On w.name (TornFile w.place w.bytes) d e × MayChange writes e i

-- what reads give after them
abbrev pub Wrote : List Write → Content → Content → Type 0
Wrote [] old new = (name : List ℕ) → new name ≡ old name
Wrote (w ∷ writes) old new = (mid : Content) × (mid w.name ≡ Some (with_slot w.place w.bytes (bytes_of (old w.name)))) × Beside w.name old mid × Wrote writes mid new

-- what a stop may leave at any moment of the writes, by what it might have left before
abbrev pub MayLeave : {S : Type 0} → StoreWords S → S → List Write → Image → Type 0
MayLeave store old writes i = (d : Image) × MayLeaveNow store old d × MayChange writes d i

module _ {S : Type 0} (store : StoreWords S) where
  -- What a stop may leave of a mark: what it might have left before; or all files at rest as they read before, but for the writes, of which each
  -- may be torn, or not made; or all files at rest as they read with the writes.
  pub data MayStop (start : S) (writes : List Write) (i : Image) : Type 0 where
    before : MayLeaveNow store start i → MayStop start writes i
    writing : (d : Image) → IsAtRest (store.seen start) d → MayChange writes d i → MayStop start writes i
    written : (content : Content) → Wrote writes (store.seen start) content → IsAtRest content i → MayStop start writes i

  -- all files are at rest, as they read before with the writes
  pub record Settled (start : S) (writes : List Write) (s : S) : Type 0 where
    pub wrote : IsTrue store.tells → Wrote writes (store.seen start) (store.seen s)
    pub rests : (i : Image) → MayLeaveNow store s i → IsAtRest (store.seen s) i

-- no file has fewer bytes than before
abbrev pub NoneShorter : Content → Content → Type 0
NoneShorter old new = (name : List ℕ) → file_length (old name) ≤ file_length (new name)
