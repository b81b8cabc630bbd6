-- What a stop leaves of a page.
use Rattle.std.specs.Prelude.{◌≡◌, ◌≤◌, ℕ, ◌+◌, Bool, true, List, [], ◌∷◌, ◌++◌, length, take, Option, Ok}
use Rattle.io_traits.specs.Reads.{bytes_of}
use Rattle.io_traits.specs.Images.{Image, at_rest}
use Rattle.io_traits.specs.Chance.{NoChance}
use Rattle.io_traits.specs.Moments.{MayLeaveNow, EachMoment}
use Rattle.io_traits.specs.Tails.{passes, HasTail}
use Rattle.io_traits.specs.declared.stores.Store.{Ghosts as StoreWords}
use Rattle.io_traits.specs.declared.pages.PageState.{PageState}
use Rattle.queue_page.specs.Elements.{is_element}
use Rattle.queue_page.specs.Grammar.{IsElement, AreElements}
use Rattle.queue_page.specs.Pages.{PageRows, opened}
use Rattle.queue_page.specs.declared.row.PageRow.{PageRow}

-- the page of this name says the same as this file did, where no element stands by chance
abbrev pub SaysSame : List ℕ → Bool → PageState → Option (List ℕ) → Image → Type 0
SaysSame name head s file i = NoChance (passes is_element) (i name) → opened head s (bytes_of (i name).file) ≡ opened head s (bytes_of file)

-- a head page that is recorded so: its settled front says these rows when it is opened, and behind it stand the elements of pending rows
pub record IsOpenPage (s : PageState) (version : ℕ) (rows pending : List PageRow) (front tail : List ℕ) : Type 0 where
  pub says : opened true s front ≡ Ok (record { version = version; rows = rows; length = length front })
  pub behind : AreElements version (s.least + length rows) (length front) pending tail

-- these bytes are the element of the row that comes behind these
pub record ComesBehind (s : PageState) (version : ℕ) (rows pending : List PageRow) (front tail : List ℕ) (row : PageRow) (frame : List ℕ) : Type 0 where
  pub number : row.number ≡ s.least + length rows + length pending
  pub element : IsElement version (length front + length tail) row frame

-- when the page is opened it says these rows, and of those behind them only the first, be they none or all
pub record SaysFirst (s : PageState) (version : ℕ) (rows pending : List PageRow) (file : List ℕ) : Type 0 where
  pub page : PageRows
  pub says : opened true s file ≡ Ok page
  pub version_is : page.version ≡ version
  pub count : ℕ
  pub few : count ≤ length pending
  pub rows_are : page.rows ≡ rows ++ take count pending

module _ {S : Type 0} (store : StoreWords S) where
  -- A stop at any moment of an append leaves the settled rows, and of those behind them with the new one the first, where no element stands by
  -- chance.
  abbrev pub LeavesFirst : List ℕ → List ℕ → S → S → Type 0
  LeavesFirst name frame old new =
      (s : PageState) (version : ℕ) (rows pending : List PageRow) (front tail : List ℕ) (row : PageRow) → HasTail store old name front tail → IsOpenPage s version rows pending front tail
      → ComesBehind s version rows pending front tail row frame
      → EachMoment store old new (λ i. NoChance (passes is_element) (i name) → SaysFirst s version rows (pending ++ row ∷ []) (bytes_of (i name).file))

  -- A stop at any moment leaves a page that was at rest as it was: it says the same when it is opened.
  abbrev pub LeavesSame : List ℕ → Bool → PageState → S → S → Type 0
  LeavesSame name head s old new =
      (file : Option (List ℕ)) → ((i : Image) → MayLeaveNow store old i → i name ≡ at_rest file) → EachMoment store old new (SaysSame name head s file)
