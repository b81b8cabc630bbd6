-- Which rows of a queue that is open are unread, and that a batch takes the first of them.
use Rattle.std.specs.Prelude.{◌≡◌, ◌≤◌, ℕ, List, [], ◌∷◌, ◌++◌, length, map, None, Ok, ⊤}
use Rattle.io_traits.specs.Folders.{Content}
use Rattle.io_traits.specs.Reads.{bytes_of}
use Rattle.queue_page.specs.declared.row.PageRow.{PageRow}
use Rattle.queue_files.specs.Folders.{page, names_in}
use Rattle.queue_files.specs.Found.{Row}
use Rattle.queue_files.specs.Kept.{Page, Queue, IsQueue}
use Rattle.queue_files.specs.Resting.{Held}
use Rattle.queue_files.specs.Marks.{read_in}
use Rattle.queue_core.specs.NextBatch.{StandsAt, unread_rows_in}
use Rattle.queue_core.specs.Opens.{ArePagesOf, IsOfFiles, IsPageOf}
use Rattle.queue_core.specs.Taking.{Stand, all_pages, batch_bytes, batch_of, begun, behind_take, rows_taken}
use Rattle.queue_core.specs.Unread.{told, taken}
use Rattle.queue_core.specs.Views.{OpenPageView, CursorView, QueueView}

-- each page has the name of its number
abbrev pub AreNamed : List ℕ → List OpenPageView → Type 0
AreNamed folder [] = ⊤
AreNamed folder (o ∷ pages) = (o.file ≡ names_in folder (page o.number)) × AreNamed folder pages

-- reads give this queue, which is the one that is open
pub record IsRead (content : Content) (v : QueueView) (q : Queue) : Type 0 where
  pub is : IsQueue q
  pub held : Held q (read_in (names_in v.folder) content)
  pub tails : ArePagesOf v.tails q.tails
  pub top : IsPageOf v.top q.top
  pub files : IsOfFiles v content
  pub named : AreNamed v.folder (all_pages v)

-- the rows of its pages, page by page
abbrev pub page_rows : Queue → List (List PageRow)
page_rows q = map (λ (p : Page). p.rows) q.tails ++ q.top.rows ∷ []

-- the next row stands where the cursor says, if its page is among these
abbrev pub CursorStands : Content → CursorView → List OpenPageView → List (List PageRow) → Type 0
CursorStands content c [] rows = ⊤
CursorStands content c (o ∷ pages) [] = ⊤
CursorStands content c (o ∷ pages) (rows ∷ others) = (c.page ≡ o.number → StandsAt o rows (bytes_of (content o.file)) c.number c.place) × CursorStands content c pages others

-- these rows of the queue are unread, and the first of them stands where the cursor says
pub record AreUnread (content : Content) (v : QueueView) (q : Queue) (rows : List Row) : Type 0 where
  pub stands : CursorStands content v.cursor (all_pages v) (page_rows q)
  pub rows_are : unread_rows_in (begun 0 v.cursor) (all_pages v) (page_rows q) ≡ rows
  pub count : v.unread ≡ length rows

-- Of a queue with these unread rows a batch takes the first ones, as many as it may have, and the others are unread then. One that may have a row is there
-- unless no row is unread.
abbrev pub FirstRowsAreTaken : Type 0
FirstRowsAreTaken =
    (most : ℕ) (content : Content) (v : QueueView) (q : Queue) (rows : List Row) → IsRead content v q → AreUnread content v q rows
    → (s : Stand) × (rest : List Row) × (rows_taken most content v ≡ Ok s) × (map told s.reading.rows ≡ taken batch_bytes most None rows) × (map told s.reading.rows ++ rest ≡ rows)
    × ((held : CursorView) → AreUnread content (behind_take held s v) q rest)
    × (1 ≤ most → batch_of s.reading ≡ None → rows ≡ [])
