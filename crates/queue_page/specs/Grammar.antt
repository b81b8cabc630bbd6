-- Pages of the queue as a grammar on bytes (this project's tables): a byte of 1 or 2, which is the version, and then elements whose numbers go up
-- by one, each a frame around the body of its row.
use Rattle.std.specs.Prelude.{◌≡◌, ◌⊎◌, ◌<◌, ◌^◌, ℕ, ◌+◌, List, [], ◌∷◌, ◌++◌, length}
use Rattle.event_tree.specs.Events.{Ev}
use Rattle.crc_frame.specs.Frames.{frame_of}
use Rattle.element_code.specs.RowBodies.{row_spelling}
use Rattle.element_code.specs.declared.row.Origin.TheVariants.{Id}
use Rattle.queue_page.specs.Bodies.{IsBody}
use Rattle.queue_page.specs.Views.{PageView}
use Rattle.queue_page.specs.declared.row.PageRow.{PageRow}

-- these bytes are the element of this row, which stands at this place of its page
pub record IsElement (version place : ℕ) (row : PageRow) (bytes : List ℕ) : Type 0 where
  pub body : List ℕ
  pub is_body : IsBody version body row.origin row.event
  pub number_fits : row.number < 2 ^ 64
  pub body_fits : length body < 2 ^ 32
  pub framed : frame_of row.number body ≡ bytes
  pub next : row.next ≡ place + length bytes

-- these bytes are the elements of these rows, the first of which has this number and stands at this place
abbrev pub AreElements : ℕ → ℕ → ℕ → List PageRow → List ℕ → Type 0
AreElements version number place [] bytes = bytes ≡ []
AreElements version number place (row ∷ rows) bytes =
    (front : List ℕ) × (rest : List ℕ) × (front ++ rest ≡ bytes) × (row.number ≡ number) × IsElement version place row front
    × AreElements version (number + 1) row.next rows rest

-- these bytes are a page of this version, whose least number is this, with these rows
pub record IsPage (bytes : List ℕ) (version least : ℕ) (rows : List PageRow) : Type 0 where
  pub is_version : (version ≡ 1) ⊎ (version ≡ 2)
  pub elements : List ℕ
  pub begins : bytes ≡ version ∷ elements
  pub are : AreElements version least 1 rows elements

-- a row with its origin, whose element stands at this place of its page
abbrev pub row_framed : ℕ → List ℕ → Ev → ℕ → PageRow
row_framed number origin event place = record { number = number; origin = Id origin; event = event; next = place + length (frame_of number (row_spelling origin event)) }

-- these bytes are the element of this row, which comes next in the page
pub record IsNext (page : PageView) (row : PageRow) (frame : List ℕ) : Type 0 where
  pub number : row.number ≡ page.state.least + page.state.count
  pub element : IsElement page.version page.state.length row frame
