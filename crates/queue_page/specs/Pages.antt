-- What a page of the queue says of which a checkpoint says how far it goes: its first damage, or its rows.
use Rattle.std.specs.Prelude.{◌≡◌, ◌≤◌, false, ℕ, ◌+◌, ◌-◌, ◌^◌, ◌==◌, ◌||◌, min, nat_lt, Bool, List, ◌++◌, length, take, drop, get_or, if◌then◌else◌, Option, Some, None, Result, Ok, Err}
use Rattle.io_traits.specs.declared.pages.PageState.{PageState}
use Rattle.queue_page.specs.Blocks.{left_of}
use Rattle.queue_page.specs.Elements.{number_of, element_at, misfit, and_then}
use Rattle.queue_page.specs.Runs.{Run, run}
use Rattle.queue_page.specs.Views.{PageView}
use Rattle.queue_page.specs.declared.fault.Mismatch.{Mismatch}
use Rattle.queue_page.specs.declared.row.PageRow.{PageRow}

-- a page: its version, its rows, and how many bytes it has
pub record PageRows : Type 0 where
  pub version : ℕ
  pub rows : List PageRow
  pub length : ℕ

abbrev pub is_version : ℕ → Bool
is_version version = (version == 1) || (version == 2)

-- the elements of an extent, if nothing is wrong with one and they are as many as was recorded
abbrev pub counted_by : PageState → ℕ → Run → Option Mismatch → Result PageRows Mismatch
counted_by s version found (Some fault) = Err fault
counted_by s version found None =
    if length found.rows == s.count then Ok (record { version = version; rows = found.rows; length = s.length }) else Err (misfit 0 (length found.rows) s.count)

abbrev pub counted : PageState → ℕ → Run → Result PageRows Mismatch
counted s version found = counted_by s version found found.stop

-- the version of an extent; 0 where it has no byte
abbrev pub version_of : List ℕ → ℕ
version_of extent = get_or extent 0 0

-- the run of elements within an extent: none is left out, since each has at least 16 bytes
abbrev pub within : PageState → List ℕ → Run
within s extent = run s.length (version_of extent) s.least 1 (drop 1 extent)

-- The page within its recorded extent: the file is as long as that, its first byte is a version, its elements have no fault, and there are as
-- many as was recorded.
unfoldable pub recorded : PageState → List ℕ → Result PageRows Mismatch
recorded s file =
    if nat_lt (length file) s.length then Err (misfit (length file) (length file) s.length)
    else (if is_version (version_of (take s.length file)) then counted s (version_of (take s.length file)) (within s (take s.length file)) else Err (misfit 0 (version_of (take s.length file)) 2))

-- how many more elements a page may take: up to 2^32 - 1 as a whole, and with numbers below 2^63 - 1
unfoldable pub room_of : PageState → ℕ
room_of s = min (2 ^ 32 - 1 - s.count) (2 ^ 63 - 1 - (s.least + s.count))

-- the longest run of intact elements behind the recorded extent
abbrev pub run_behind : PageState → ℕ → List ℕ → Run
run_behind s version file = run (room_of s) version (s.least + s.count) s.length (drop s.length file)

-- the page with these too
abbrev pub with_run : PageRows → Run → PageRows
with_run page more = record { version = page.version; rows = page.rows ++ more.rows; length = more.end }

abbrev pub extended : Bool → PageState → List ℕ → PageRows → PageRows
extended head s file page = if head then with_run page (run_behind s page.version file) else page

-- a page, as it is opened: of the head page the rows behind its extent are kept
abbrev pub opened : Bool → PageState → List ℕ → Result PageRows Mismatch
opened head s file = and_then (recorded s file) (λ page. Ok (extended head s file page))

-- how the page stands then
abbrev pub state_of : PageState → PageRows → PageState
state_of s page = record s { count = length page.rows; length = page.length }

abbrev pub view_of : PageState → PageRows → PageView
view_of s page = record { version = page.version; state = state_of s page }

-- what is opened, as callers see it
abbrev pub recorded_view : PageState → List ℕ → Result PageView Mismatch
recorded_view s file = and_then (recorded s file) (λ page. Ok (view_of s page))

abbrev pub opened_view : Bool → PageState → List ℕ → Result PageView Mismatch
opened_view head s file = and_then (opened head s file) (λ page. Ok (view_of s page))

-- the elements of an extent of a page of this version
abbrev pub counted_view : PageState → ℕ → List ℕ → Result PageView Mismatch
counted_view s version extent = and_then (counted s version (run s.length version s.least 1 (drop 1 extent))) (λ page. Ok (view_of s page))

-- the page with the run behind its extent
abbrev pub behind_view : PageView → List ℕ → PageView
behind_view page file =
    let more = run_behind page.state page.version file in
    record { version = page.version; state = record page.state { count = page.state.count + length more.rows; length = more.end } }

-- what is kept of a file: of the head page what was read, and any other as a whole
abbrev pub kept_of : Bool → PageView → List ℕ → List ℕ
kept_of head page file = if head then take page.state.length file else file

-- The page that a file is as a whole, whatever was recorded of it: all of the file is its extent, and nothing is said of its rows. There is none where
-- the first byte is no version.
abbrev pub whole_page : List ℕ → Option PageView
whole_page file =
    if is_version (version_of file) then Some (record { version = version_of file; state = record { page = 0; first_open = 0; least = 0; count = 0; length = length file } })
    else None

-- the row at a place of a page, whatever its number is
abbrev pub row_at : PageView → ℕ → List ℕ → Result PageRow Mismatch
row_at page place file = element_at page.version (number_of (left_of file place page.state.length)) place (left_of file place page.state.length)

-- the page with one element more, of so many bytes
abbrev pub with_element : PageView → ℕ → PageView
with_element page len = record page { state = record page.state { count = page.state.count + 1; length = page.state.length + len } }

-- How a page stands that was recorded so: with the same numbers, and all of them below 2^63 - 1; of the head page, there may be rows behind its extent.
pub record IsGrown (head : Bool) (recorded now : PageState) : Type 0 where
  pub same : now ≡ record recorded { count = now.count; length = now.length }
  pub numbers : now.least + now.count ≤ 2 ^ 63 - 1
  pub exact : head ≡ false → now ≡ recorded
