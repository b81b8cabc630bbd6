-- The files of a folder of which nothing is found, and the folder without them.
use Rattle.std.specs.Prelude.{◌≡◌, ◌<◌, ◌≤◌, ◌^◌, ◌&&◌, ◌==◌, not, nat_lt, ℕ, Bool, IsTrue, List, ◌++◌, map, filter, None, IsSome, Ok}
use Rattle.std.specs.List.{list_any}
use Rattle.io_traits.specs.Images.{Image, IsAtRest}
use Rattle.io_traits.specs.Moments.{MayLeaveNow, EachMoment}
use Rattle.io_traits.specs.declared.stores.Store.{Ghosts as StoreWords}
use Rattle.io_traits.specs.declared.pages.PageState.{PageState}
use Rattle.queue_files.specs.Folders.{head, page, checkpoint, Folder, Names, names_in, folder_in}
use Rattle.queue_files.specs.Checkpoints.{told}
use Rattle.queue_files.specs.Found.{found}
use Rattle.queue_files.specs.Listing.{IsListed}
use Rattle.queue_files.specs.Marks.{read_in}
use Rattle.queue_files.specs.declared.listing.Listing.{Listing}

-- the checkpoint of this number speaks of a page below the head, which is among these
abbrev pub is_paired : ℕ → List ℕ → ℕ → Bool
is_paired top pages n = nat_lt n top && list_any (λ m. m == n) pages

abbrev pub pages_above : List ℕ → ℕ → List ℕ → List (List ℕ)
pages_above folder top pages = map (λ n. names_in folder (page n)) (filter (nat_lt top) pages)

abbrev pub unpaired : List ℕ → ℕ → List ℕ → List ℕ → List (List ℕ)
unpaired folder top pages checkpoints = map (λ n. names_in folder (checkpoint n)) (filter (λ n. not (is_paired top pages n)) checkpoints)

-- the pages above the head, and the checkpoints from it on or without a page
abbrev pub unread_names : List ℕ → ℕ → Listing → List (List ℕ)
unread_names folder top l = pages_above folder top l.pages.items ++ unpaired folder top l.pages.items l.checkpoints.items

-- The folder without them holds the same: the pages up to the head, the checkpoints of those below it and the head slot are the same files, and no
-- other file that a queue may have stands from the head on.
pub record IsTidied (s : PageState) (a b : Folder) : Type 0 where
  pub pages : (n : ℕ) → n ≤ s.page → b (page n) ≡ a (page n)
  pub slots : (n : ℕ) → n < s.page → IsSome (a (page n)) → b (checkpoint n) ≡ a (checkpoint n)
  pub head_is : b head ≡ a head
  pub found_is : found b ≡ found a
  pub no_pages : (n : ℕ) → s.page < n → n < 2 ^ 32 → b (page n) ≡ None
  pub no_checkpoints : (n : ℕ) → s.page ≤ n → n < 2 ^ 32 → b (checkpoint n) ≡ None

module _ {S : Type 0} (store : StoreWords S) where
  -- a folder at rest, of which this is a list, and whose head slot says this
  pub record IsRead (names : Names) (l : Listing) (s : PageState) (at : S) : Type 0 where
    pub rests : (i : Image) → MayLeaveNow store at i → IsAtRest (store.seen at) i
    pub listed : IsTrue store.tells → IsListed (read_in names (store.seen at)) l
    pub tells : IsTrue store.tells → told (store.seen at (names head)) ≡ Ok s

  -- a stop at any moment leaves a folder that holds the same
  abbrev pub StaysFound : Names → S → S → Type 0
  StaysFound names old new = EachMoment store old new (λ i. found (folder_in names i) ≡ found (read_in names (store.seen old)))

  abbrev pub UnreadGo : Names → Listing → PageState → S → S → Type 0
  UnreadGo names l s old new = IsRead names l s old → StaysFound names old new

  -- then all is at rest
  pub record LeavesTidy (names : Names) (s : PageState) (old new : S) : Type 0 where
    pub rests : (i : Image) → MayLeaveNow store new i → IsAtRest (store.seen new) i
    pub tidied : IsTrue store.tells → IsTidied s (read_in names (store.seen old)) (read_in names (store.seen new))

  abbrev pub UnreadAreGone : Names → Listing → PageState → S → S → Type 0
  UnreadAreGone names l s old new = IsRead names l s old → LeavesTidy names s old new
