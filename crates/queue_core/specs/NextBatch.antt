-- The next rows of a queue, as many as a batch may have, in terms of the rows of its pages.
use Rattle.std.specs.Prelude.{◌≡◌, ◌≤◌, ◌+◌, ◌-◌, ◌==◌, nat_lt, ℕ, suc, false, if◌then◌else◌, List, [], ◌∷◌, ◌++◌, length, map, drop, Ok, ⊤}
use Rattle.io_traits.specs.Folders.{Content}
use Rattle.io_traits.specs.Reads.{bytes_of, file_length}
use Rattle.queue_page.specs.Blocks.{left_of}
use Rattle.queue_page.specs.Grammar.{AreElements}
use Rattle.queue_page.specs.declared.row.PageRow.{PageRow}
use Rattle.queue_files.specs.Found.{Row, since}
use Rattle.queue_core.specs.Calls.{end_of}
use Rattle.queue_core.specs.Taking.{Stand, pages_read}
use Rattle.queue_core.specs.Unread.{told, taken}
use Rattle.queue_core.specs.Views.{OpenPageView}

-- the rows of a page from this number on stand in its file from this place on
pub record StandsAt (o : OpenPageView) (rows : List PageRow) (file : List ℕ) (number place : ℕ) : Type 0 where
  pub within : place ≤ o.page.state.length
  pub behind : o.page.state.least ≤ number
  pub count : number + length (drop (number - o.page.state.least) rows) ≡ end_of o
  pub are : AreElements o.page.version number place (drop (number - o.page.state.least) rows) (left_of file place o.page.state.length)

-- all rows of a page stand in its file, and those from the next row on, if that stands in it
pub record RowsStand (content : Content) (s : Stand) (o : OpenPageView) (rows : List PageRow) : Type 0 where
  pub long : o.page.state.length ≤ file_length (content o.file)
  pub first : StandsAt o rows (bytes_of (content o.file)) o.page.state.least 1
  pub here : s.page ≡ o.number → StandsAt o rows (bytes_of (content o.file)) s.reading.number s.reading.place

-- so do those of these pages
abbrev pub AllStand : Content → Stand → List OpenPageView → List (List PageRow) → Type 0
AllStand content s [] [] = ⊤
AllStand content s [] (rows ∷ others) = ⊥
AllStand content s (o ∷ pages) [] = ⊥
AllStand content s (o ∷ pages) (rows ∷ others) = RowsStand content s o rows × AllStand content s pages others

-- the numbers of pages rise, from one on
abbrev pub Rise : ℕ → List OpenPageView → Type 0
Rise from [] = ⊤
Rise from (o ∷ pages) = (from ≤ o.number) × Rise (suc o.number) pages

-- the rows of a page from the next row on
abbrev pub left_in : Stand → OpenPageView → List PageRow → List PageRow
left_in s o rows = if nat_lt o.number s.page then [] else (if o.number == s.page then drop (s.reading.number - o.page.state.least) rows else rows)

-- of these pages those that aren't recorded as acknowledged
abbrev pub unread_rows_in : Stand → List OpenPageView → List (List PageRow) → List Row
unread_rows_in s [] rows = []
unread_rows_in s (o ∷ pages) [] = []
unread_rows_in s (o ∷ pages) (rows ∷ others) = since o.from (left_in s o rows) ++ unread_rows_in s pages others

-- Where the rows of pages stand in their files, those that are read for a batch are the first of the unread rows, as many as the batch may have; and the others
-- are unread then.
abbrev pub NextBatchIsRead : Type 0
NextBatchIsRead =
    (content : Content) (pages : List OpenPageView) (rows : List (List PageRow)) (s : Stand) → s.reading.closed ≡ false → Rise 0 pages → AllStand content s pages rows
    → (next : Stand) × (pages_read content pages s ≡ Ok next)
    × (map told next.reading.rows ≡ map told s.reading.rows ++ taken s.reading.most_bytes (s.reading.most_rows - length s.reading.rows) s.reading.bytes (unread_rows_in s pages rows))
    × AllStand content next pages rows × (map told next.reading.rows ++ unread_rows_in next pages rows ≡ map told s.reading.rows ++ unread_rows_in s pages rows)
