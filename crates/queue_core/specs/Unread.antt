-- The next rows of a page, as many as a batch may have, in terms of rows.
use Rattle.std.specs.Prelude.{◌≡◌, ◌≤◌, ◌+◌, ◌-◌, ℕ, suc, zero, false, List, [], ◌∷◌, ◌++◌, length, map, drop, if◌then◌else◌, Option, Some, None, Ok}
use Rattle.queue_page.specs.Blocks.{left_of}
use Rattle.queue_page.specs.Bodies.{body_spelling}
use Rattle.queue_page.specs.Grammar.{AreElements}
use Rattle.queue_page.specs.Views.{PageView}
use Rattle.queue_page.specs.declared.row.PageRow.{PageRow}
use Rattle.queue_files.specs.Found.{Row, since}
use Rattle.queue_core.specs.Batching.{with_more, is_over, rows_read}
use Rattle.queue_core.specs.declared.page_rows.QueueRow.{QueueRow}
use Rattle.queue_core.specs.declared.page_rows.BatchReader.{BatchReader}

abbrev pub told : QueueRow → Row
told r = record { number = r.number; origin = r.origin; event = r.event }

-- how many bytes the body of a row has
abbrev pub body_size : Row → ℕ
body_size r = length (body_spelling r.origin r.event)

-- The first of these rows, at most so many, as long as their bodies have no more bytes than these at most, with those before them; a first row of a
-- batch may have any number.
abbrev pub taken_with : Option ℕ → Row → (Option ℕ → List Row) → List Row
taken_with None row rest = []
taken_with (Some bytes) row rest = row ∷ rest (Some bytes)

abbrev pub taken : ℕ → ℕ → Option ℕ → List Row → List Row
taken most zero bytes rows = []
taken most (suc count) bytes [] = []
taken most (suc count) bytes (row ∷ rows) = taken_with (with_more most bytes (body_size row)) row (λ b. taken most count b rows)

-- The same of further rows, behind those that were read.
abbrev pub taken_on : BatchReader → List Row → List Row
taken_on r rows = if r.closed then [] else taken r.most_bytes (r.most_rows - length r.rows) r.bytes rows

-- What was read of a page whose next rows are these, and where the next row stands then: so many of them were read, and the others stand from there on. What
-- the batch got of them, with those that are left, is all of them. A batch of these rows and further ones has those that it has now, and as many of the further
-- ones as it may then; while it isn't over, none of these is left.
pub record IsReadOn (p : PageView) (from : ℕ) (file : List ℕ) (rows : List PageRow) (r next : BatchReader) : Type 0 where
  pub count : ℕ
  pub few : count ≤ length rows
  pub number : next.number ≡ r.number + count
  pub within : next.place ≤ p.state.length
  pub left : AreElements p.version next.number next.place (drop count rows) (left_of file next.place p.state.length)
  pub given : map told next.rows ++ since from (drop count rows) ≡ map told r.rows ++ since from rows
  pub goes_on : (more : List Row) → map told r.rows ++ taken r.most_bytes (r.most_rows - length r.rows) r.bytes (since from rows ++ more) ≡ map told next.rows ++ taken_on next more
  pub most_rows : next.most_rows ≡ r.most_rows
  pub most_bytes : next.most_bytes ≡ r.most_bytes
  pub all : is_over next ≡ false → drop count rows ≡ []

-- Where the elements of rows stand in a page from the next row on, those that are read for a batch are the first of them that aren't below a number,
-- as many as the batch may have; and the next row is the one behind them.
abbrev pub NextRowsAreRead : Type 0
NextRowsAreRead =
    (name : List ℕ) (p : PageView) (from : ℕ) (file : List ℕ) (rows : List PageRow) (r : BatchReader) → r.closed ≡ false → p.state.length ≤ length file → r.place ≤ p.state.length
    → AreElements p.version r.number r.place rows (left_of file r.place p.state.length)
    → (next : BatchReader) × (rows_read name p from file (length rows) r ≡ Ok next) × (map told next.rows ≡ map told r.rows ++ taken r.most_bytes (r.most_rows - length r.rows) r.bytes (since from rows))
    × IsReadOn p from file rows r next
