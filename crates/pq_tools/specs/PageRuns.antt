-- A run of elements of a page that is read row by row.
use Rattle.std.specs.Prelude.{◌≡◌, ◌≤◌, ℕ, ◌+◌, ◌-◌, ◌^◌, min, List, [], ◌∷◌, length, Option, Some, None}
use Rattle.queue_page.specs.Blocks.{IsPart, left_of}
use Rattle.queue_page.specs.Runs.{run}
use Rattle.queue_page.specs.Views.{PageView}
use Rattle.queue_page.specs.declared.row.PageRow.{PageRow}
use Rattle.pq_tools.specs.Salvage.{rows_in}
use Rattle.pq_tools.specs.declared.salvaging.PageRun.{PageRun}

-- the rows of a file that are still to come
abbrev pub rows_left : List ℕ → PageRun → List PageRow
rows_left file r = (run r.left r.page.version r.number r.place (left_of file r.place r.page.state.length)).rows

-- the run from the first element of a page on, which has this number
abbrev pub run_from : PageView → ℕ → PageRun
run_from page number = record { page = page; block = record { place = 0; bytes = [] }; place = 1; number = number; left = min page.state.length (2 ^ 64 - number) }

-- The whole of this file is the extent of the page, and what was read last is a part of it. The numbers that may come have 64 bits.
pub record IsRun (file : List ℕ) (r : PageRun) : Type 0 where
  pub whole : r.page.state.length ≡ length file
  pub part : IsPart file r.block
  pub within : r.place ≤ r.page.state.length
  pub numbers : r.number + r.left ≤ 2 ^ 64

-- the first of these rows has this number
abbrev pub FirstIs : ℕ → List PageRow → Type 0
FirstIs number [] = ⊥
FirstIs number (row ∷ rows) = row.number ≡ number

-- a run that begins with the first element of a file
pub record IsFirstRun (file : List ℕ) (r : PageRun) : Type 0 where
  pub is : IsRun file r
  pub rows : rows_left file r ≡ rows_in file
  pub first : FirstIs r.number (rows_left file r)

abbrev pub BeginsRun : List ℕ → Option PageRun → Type 0
BeginsRun file None = rows_in file ≡ []
BeginsRun file (Some r) = IsFirstRun file r

-- the next row of a run, and the run behind it
pub record IsNextRow (file : List ℕ) (old new : PageRun) (row : PageRow) : Type 0 where
  pub is : IsRun file new
  pub left : new.left + 1 ≡ old.left
  pub number : row.number ≡ old.number
  pub rows : rows_left file old ≡ row ∷ rows_left file new

abbrev pub GivesRow : List ℕ → PageRun → PageRun → Option PageRow → Type 0
GivesRow file old new None = IsRun file old → rows_left file old ≡ []
GivesRow file old new (Some row) = IsRun file old → IsNextRow file old new row
