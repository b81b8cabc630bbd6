-- A folder that is opened, part by part: what does not count of it is removed and cut, and what is open then.
use Rattle.std.specs.Prelude.{◌≡◌, ◌≢◌, ◌⊎◌, ◌<◌, ◌≤◌, ◌^◌, ◌-◌, ◌++◌, ℕ, Bool, IsTrue, List, [], ◌∷◌, length, map, take, None, option_map, Contains, All, IsSome, Ok}
use Rattle.io_traits.specs.Folders.{Content}
use Rattle.io_traits.specs.Images.{Image, at_rest}
use Rattle.io_traits.specs.declared.stores.Store.{Ghosts as StoreWords}
use Rattle.slot_files.specs.Changes.{HasFirst}
use Rattle.slot_files.specs.Contents.{counted_in as first_version}
use Rattle.settings_lines.specs.declared.settings.Policy.{Policy}
use Rattle.dead_letters.specs.Queues.{segment, position, name_in}
use Rattle.dead_letters.specs.Found.{bytes_in, found}
use Rattle.dead_letters.specs.Views.{DeadQueue, IsOwn}
use Rattle.dead_letters.specs.Ready.{files_from, IsReady, held_now}
use Rattle.dead_letters.specs.Opening.{HoldsStill, IsCleared}
use Rattle.dead_letters.specs.declared.segments.Segments.{Segments}
use Rattle.dead_letters.specs.declared.opening.OpenedLetters.{OpenedLetters}
use Rattle.dead_letters.specs.declared.trimming.Excess.{Excess}

-- a number of none of these segments
abbrev pub IsOther : Segments → ℕ → Type 0
IsOther s n = (n < 2 ^ 32) × ((n < s.first) ⊎ (s.last < n))

-- of what reads give: these files are gone, one is cut to this length, and all others are as they were
pub record IsCut (gone : List (List ℕ)) (last : List ℕ) (len : ℕ) (old new : Content) : Type 0 where
  pub stays : (name : List ℕ) → name ≢ last → (Contains gone name → ⊥) → new name ≡ old name
  pub cut : new last ≡ option_map (take len) (old last)
  pub gone_now : (name : List ℕ) → name ≢ last → Contains gone name → new name ≡ None
  pub missing : (name : List ℕ) → name ≢ last → old name ≡ None → new name ≡ None

-- a file of a segment that is none of these
abbrev pub IsOfOther : List ℕ → Segments → List ℕ → Type 0
IsOfOther folder s name = (n : ℕ) × IsOther s n × (name ≡ name_in folder (segment n))

-- each other segment whose file stands is among these
abbrev pub AreAllOthers : List ℕ → Segments → Content → List (List ℕ) → Type 0
AreAllOthers folder s content gone = (n : ℕ) → IsOther s n → IsSome (content (name_in folder (segment n))) → Contains gone (name_in folder (segment n))

-- a queue that is open with these segments
abbrev pub opened_queue : List ℕ → ℕ → Policy → ℕ → ℕ → List ℕ → DeadQueue
opened_queue folder limit policy turn first sizes = record { folder = folder; limit = limit; policy = policy; turn = turn; first = first; sizes = sizes }

-- how many bytes each of these segments has: the last one its length, the others to the end of their files
abbrev pub sizes_cut : List ℕ → Content → Segments → List ℕ
sizes_cut folder content s = map length (files_from folder content s.first (s.last - s.first)) ++ s.length ∷ []

-- what does not count beside these segments: files of others, which are all that stand, and what is behind the last one's length
pub record IsExcess (folder : List ℕ) (s : Segments) (tells : Bool) (content : Content) (e : Excess) : Type 0 where
  pub last : e.last ≡ name_in folder (segment s.last)
  pub from : All (IsOfOther folder s) e.gone.items
  pub all : IsTrue tells → AreAllOthers folder s content e.gone.items
  pub long : IsTrue tells → s.length ≤ length (bytes_in folder content s.last)

-- of what reads give: so many bytes of the one segment of a queue of the first version counted, and these are all of it
pub record IsFirst (folder : List ℕ) (len : ℕ) (old new : Content) : Type 0 where
  pub counted : first_version (name_in folder (segment 0)) (name_in folder position) old ≡ Ok len
  pub still : first_version (name_in folder (segment 0)) (name_in folder position) new ≡ Ok len
  pub bytes : bytes_in folder new 0 ≡ take len (bytes_in folder old 0)
  pub long : length (bytes_in folder new 0) ≡ len

module _ {S : Type 0} (store : StoreWords S) where
  -- where all is at rest: the folder holds what it held, and all other files are as they were
  pub record StaysHeld (folder : List ℕ) (s : S) (i : Image) : Type 0 where
    pub own : HoldsStill folder (store.seen s) i
    pub beside : (name : List ℕ) → (IsOwn folder name → ⊥) → i name ≡ at_rest (store.seen s name)

  -- where all is at rest: files are removed, and one keeps its first bytes
  pub record Trims (gone : List (List ℕ)) (last : List ℕ) (len : ℕ) (s : S) (i : Image) : Type 0 where
    pub stays : (name : List ℕ) → name ≢ last → (Contains gone name → ⊥) → i name ≡ at_rest (store.seen s name)
    pub front : HasFirst len (store.seen s last) (i last)

  -- a folder is open: each queue with these segments is ready, holds what the folder held, and has no other segment
  pub record IsOpened (folder : List ℕ) (o : OpenedLetters) (old new : S) : Type 0 where
    pub ready : (limit : ℕ) (policy : Policy) → IsReady store (opened_queue folder limit policy o.turn o.first o.sizes) new
    pub held : (limit : ℕ) (policy : Policy) → IsTrue store.tells → found folder (store.seen old) ≡ Ok (held_now (opened_queue folder limit policy o.turn o.first o.sizes) (store.seen new))
    pub cleared : (limit : ℕ) (policy : Policy) → IsTrue store.tells → IsCleared (opened_queue folder limit policy o.turn o.first o.sizes) (store.seen new)
