-- What a repair takes of a folder, be it damaged or not: of each page the intact rows in front that aren't recorded as acknowledged.
use Rattle.std.specs.Prelude.{ℕ, zero, suc, ◌+◌, ◌-◌, ◌^◌, ◌==◌, ◌&&◌, min, max, nat_lt, Bool, List, [], ◌∷◌, ◌++◌, length, drop, codes, if◌then◌else◌, Option, Some, None}
use Rattle.io_traits.specs.Reads.{bytes_of}
use Rattle.element_code.specs.declared.row.Origin.{Origin}
use Rattle.element_code.specs.declared.row.Origin.TheVariants.{Unknown, Id}
use Rattle.io_traits.specs.declared.pages.PageState.{PageState}
use Rattle.slot_files.specs.Checkpoints.{newest_in}
use Rattle.queue_page.specs.Elements.{number_of}
use Rattle.queue_page.specs.Pages.{is_version, version_of}
use Rattle.queue_page.specs.Runs.{run}
use Rattle.queue_page.specs.declared.row.PageRow.{PageRow}
use Rattle.queue_files.specs.Folders.{head, page, checkpoint, Folder}
use Rattle.queue_files.specs.Found.{Row, since}

-- ---- one page

-- No more elements than this stand in a file: each has at least 16 bytes, and no number is above 2^64 - 1.
abbrev pub most_in : List ℕ → ℕ
most_in file = min (length file) (2 ^ 64 - number_of (drop 1 file))

-- the longest run of intact elements with consecutive numbers from the first element on, whatever its number is; none where the first byte is no version
unfoldable pub rows_in : List ℕ → List PageRow
rows_in file = if is_version (version_of file) then (run (most_in file) (version_of file) (number_of (drop 1 file)) 1 (drop 1 file)).rows else []

-- ---- what is acknowledged

-- what the newest intact slot of the head says, if that names this page
abbrev pub by_head : ℕ → Option (ℕ × PageState) → ℕ
by_head n None = 0
by_head n (Some newest) = if newest.1.page == n then newest.1.first_open else 0

-- what the newest intact slot of the page's own checkpoint says, or this where there is none
abbrev pub by_own : Option (ℕ × PageState) → ℕ → ℕ
by_own None other = other
by_own (Some newest) other = newest.1.first_open

-- the first number of a page that isn't recorded as acknowledged
abbrev pub open_from : Folder → ℕ → ℕ
open_from folder n = by_own (newest_in (bytes_of (folder (checkpoint n)))) (by_head n (newest_in (bytes_of (folder head))))

-- ---- all pages

-- the number behind all those before, with these rows
abbrev pub end_with : ℕ → List PageRow → ℕ
end_with end [] = end
end_with end (r ∷ rows) = max end (r.number + suc (length rows))

-- what is taken of these rows: nothing where the first number isn't above all before
abbrev pub taken : ℕ → ℕ → List PageRow → List Row
taken end from [] = []
taken end from (r ∷ rows) = if nat_lt r.number end then [] else since from (r ∷ rows)

-- of a file of a page, and of what comes behind it
abbrev pub taken_by : ℕ → ℕ → Option (List ℕ) → (ℕ → List Row) → List Row
taken_by from end None rest = rest end
taken_by from end (Some file) rest = taken end from (rows_in file) ++ rest (end_with end (rows_in file))

-- of so many pages, in rising order of their numbers, from one on
unfoldable pub salvaged : ℕ → ℕ → ℕ → Folder → List Row
salvaged zero n end folder = []
salvaged (suc count) n end folder = taken_by (open_from folder n) end (folder (page n)) (λ e. salvaged count (suc n) e folder)

abbrev pub salvage : Folder → List Row
salvage folder = salvaged 0x1_0000_0000 0 0 folder

-- ---- as they are written

-- the id of an input, as pages may have it
abbrev pub is_id : List ℕ → Bool
is_id id = nat_lt 0 (length id) && nat_lt (length id) 256

abbrev pub or_unknown : List ℕ → List ℕ
or_unknown id = if is_id id then id else codes "unknown"

-- A row whose page names no input comes by `unknown`. An id that isn't one stands in no page.
abbrev pub named : Origin → List ℕ
named Unknown = codes "unknown"
named (Id id) = or_unknown id

-- rows in a new queue: with numbers from this on
abbrev pub renumbered : ℕ → List Row → List Row
renumbered number [] = []
renumbered number (r ∷ rows) = record { number = number; origin = Id (named r.origin); event = r.event } ∷ renumbered (suc number) rows
