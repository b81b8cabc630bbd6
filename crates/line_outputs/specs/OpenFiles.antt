-- The output files of a pipeline that are open: when they are ready for a delivery, and what a stop leaves of one.
use Rattle.std.specs.Prelude.{◌≡◌, ◌≢◌, ◌⊎◌, ℕ, suc, Bool, IsTrue, List, [], ◌∷◌, ◌++◌, take, Option, Some, None, Ok, if◌then◌else◌, bytes_eq, ⊤}
use Rattle.crc_frame.specs.Bytes.{IsBytes}
use Rattle.crc_frame.specs.Slots.{is_slot}
use Rattle.io_traits.specs.Reads.{bytes_of}
use Rattle.io_traits.specs.Images.{Image}
use Rattle.io_traits.specs.Chance.{NoChance}
use Rattle.io_traits.specs.Tails.{passes}
use Rattle.io_traits.specs.Moments.{MayLeaveNow, NowOrSynced, LeavesBeside, ReadsBeside}
use Rattle.io_traits.specs.declared.stores.Store.{Ghosts as StoreWords}
use Rattle.slot_files.specs.Names.{position_name}
use Rattle.slot_files.specs.declared.name.PositionOf.TheVariants.{Output as OfOutput}
use Rattle.slot_files.specs.Views.{Output}
use Rattle.slot_files.specs.Contents.{Holds, Stands, counted_in}
use Rattle.slot_files.specs.Outputs.{IsReady}

-- the folder of a pipeline, whose path ends with a slash, and its output files that are open
pub record OpenFiles : Type 0 where
  pub folder : List ℕ
  pub files : List Output

-- the place of the file of a path, or how many files there are
abbrev pub file_place : List ℕ → List Output → ℕ
file_place path [] = 0
file_place path (f ∷ fs) = if bytes_eq path f.path then 0 else suc (file_place path fs)

-- the file of a path, if it is open
abbrev pub file_of : List ℕ → List Output → Option Output
file_of path [] = None
file_of path (f ∷ fs) = if bytes_eq path f.path then Some f else file_of path fs

-- the others
abbrev pub without : List ℕ → List Output → List Output
without path [] = []
without path (f ∷ fs) = if bytes_eq path f.path then fs else f ∷ without path fs

-- of each path but one the same file is open, or none
abbrev pub SameOthers : List ℕ → List Output → List Output → Type 0
SameOthers path before after = (other : List ℕ) → other ≢ path → file_of other after ≡ file_of other before

-- the position file of a path
abbrev pub slot_in : List ℕ → List ℕ → List ℕ
slot_in folder path = folder ++ position_name OfOutput path

-- a path doesn't begin with that of the folder
abbrev pub IsOutside : List ℕ → List ℕ → Type 0
IsOutside folder path = (rest : List ℕ) → path ≢ folder ++ rest

-- the file of a path and its position file
abbrev pub IsFileOf : List ℕ → List ℕ → List ℕ → Type 0
IsFileOf folder path name = (name ≡ path) ⊎ (name ≡ slot_in folder path)

module _ {S : Type 0} (store : StoreWords S) where
  -- a file that is ready for a batch, with the names that it has in a pipeline
  pub record IsFileReady (folder : List ℕ) (out : Output) (s : S) : Type 0 where
    pub ready : IsReady store out s
    pub slot : out.slot ≡ slot_in folder out.path
    pub outside : IsOutside folder out.path
    pub bytes : IsBytes out.path

  -- each one, and no two have one path
  abbrev pub EachReady : List ℕ → List Output → S → Type 0
  EachReady folder [] s = ⊤
  EachReady folder (f ∷ fs) s = IsFileReady folder f s × (file_of f.path fs ≡ None) × EachReady folder fs s

  abbrev pub FilesReady : OpenFiles → S → Type 0
  FilesReady o s = EachReady o.folder o.files s

  -- Behind a delivery: the file has what counted of it when that began, and then the batch; and it is open.
  pub record IsDelivered (folder path batch : List ℕ) (before : List Output) (old : S) (after : List Output) (new : S) : Type 0 where
    pub file : Output
    pub path_is : file.path ≡ path
    pub files : after ≡ without path before ++ file ∷ []
    pub is_open : file_of path after ≡ Some file
    pub counted : ℕ
    pub counts : IsTrue store.tells → counted_in path (slot_in folder path) (store.seen old) ≡ Ok counted
    pub content : IsTrue store.tells → bytes_of (store.seen new path) ≡ take counted (bytes_of (store.seen old path)) ++ batch

  -- What a stop at any moment of a delivery leaves: what the file held when that began, or as it was read then, or that with the batch, if no slot
  -- stands by chance; and all other files are as they were then.
  pub record LeavesDelivered (folder path batch : List ℕ) (s : S) (i : Image) : Type 0 where
    pub from : Image
    pub was : NowOrSynced store s from
    pub own : (content : List ℕ) → Holds path (slot_in folder path) content from → NoChance (passes (is_slot 24)) (i (slot_in folder path))
        → Holds path (slot_in folder path) content i ⊎ Holds path (slot_in folder path) (content ++ batch) i
    pub beside : (name : List ℕ) → name ≢ path → name ≢ slot_in folder path → i name ≡ from name

  -- ---- laws

  -- files of others, by a test: none of them is that of an open output
  abbrev pub AreApart : (List ℕ → Bool) → OpenFiles → Type 0
  AreApart others o = (path : List ℕ) (f : Output) → file_of path o.files ≡ Some f → (name : List ℕ) → IsFileOf o.folder path name → IsTrue (others name) → ⊥

  -- whatever a stop leaves while others change their files, an open file has its content
  abbrev pub FilesStand : Type 0
  FilesStand =
      (others : List ℕ → Bool) (o : OpenFiles) (s : S) (i : Image) → FilesReady o s → AreApart others o → IsTrue store.tells → LeavesBeside store (λ name. IsTrue (others name)) s i
      → (path : List ℕ) (f : Output) → file_of path o.files ≡ Some f → Stands path (slot_in o.folder path) (bytes_of (store.seen s path)) i

  -- while others change their files, the open ones stay ready
  abbrev pub FilesStayReady : Type 0
  FilesStayReady =
      (others : List ℕ → Bool) (o : OpenFiles) (old new : S) → FilesReady o old → AreApart others o
      → ((i : Image) → MayLeaveNow store new i → LeavesBeside store (λ name. IsTrue (others name)) old i) → ReadsBeside store (λ name. IsTrue (others name)) old new → FilesReady o new
