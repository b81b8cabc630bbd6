-- Files that are removed.
use Rattle.std.specs.Prelude.{◌≡◌, ◌⊎◌, ◌≤◌, ◌<◌, ℕ, List, [], ◌∷◌, None, Contains, IsTrue, if◌then◌else◌, Ok}
use Rattle.std.specs.Str.{bytes_eq}
use Rattle.io_traits.specs.Folders.{Content}
use Rattle.io_traits.specs.Images.{Image, IsAtRest}
use Rattle.io_traits.specs.Moments.{MayLeaveNow, EachMoment}
use Rattle.io_traits.specs.declared.stores.Store.{Ghosts as StoreWords}
use Rattle.io_traits.specs.declared.pages.PageState.{PageState}
use Rattle.queue_files.specs.Folders.{Role, head, page, checkpoint, Folder, Names}
use Rattle.queue_files.specs.Checkpoints.{told}
use Rattle.queue_files.specs.Found.{found}
use Rattle.queue_files.specs.Marks.{read_in}

-- what reads give without the files of these names
abbrev pub without : List (List ℕ) → Content → Content
without [] content = content
without (x ∷ names) content = without names (λ name. if bytes_eq name x then None else content name)

-- all files are the same, but that some of these names may be missing
abbrev pub LacksSome : List (List ℕ) → Content → Content → Type 0
LacksSome names old new = (name : List ℕ) → (new name ≡ old name) ⊎ ((new name ≡ None) × Contains names name)

-- the files of an image
abbrev pub files_of : Image → Content
files_of i name = (i name).file

-- Of the file that plays this part nothing is found in a folder whose head slot says this: a page above the head, or a checkpoint from the head on
-- or without a page.
abbrev pub IsUnread : Folder → PageState → Role → Type 0
IsUnread folder s head = ⊥
IsUnread folder s (page n) = s.page < n
IsUnread folder s (checkpoint n) = (s.page ≤ n) ⊎ (folder (page n) ≡ None)

-- Such files may be missing: what is found stays.
abbrev pub UnreadFilesMayGo : Type 0
UnreadFilesMayGo =
    (names : Names) (gone : List (List ℕ)) (old new : Content) (s : PageState) → told (old (names head)) ≡ Ok s
    → ((role : Role) → Contains gone (names role) → IsUnread (read_in names old) s role) → LacksSome gone old new → found (read_in names new) ≡ found (read_in names old)

module _ {S : Type 0} (store : StoreWords S) where
  -- Where all files are at rest, a stop at any moment leaves all of them, but that some of these names may be missing.
  abbrev pub RemovalLeaves : List (List ℕ) → S → S → Type 0
  RemovalLeaves names old new = ((i : Image) → MayLeaveNow store old i → IsAtRest (store.seen old) i) → EachMoment store old new (λ i. LacksSome names (store.seen old) (files_of i))

  -- these names have no file any more, and all is at rest
  pub record RemovesAll (names : List (List ℕ)) (old new : S) : Type 0 where
    pub reads : IsTrue store.tells → (name : List ℕ) → store.seen new name ≡ without names (store.seen old) name
    pub rests : (i : Image) → MayLeaveNow store new i → IsAtRest (store.seen new) i
