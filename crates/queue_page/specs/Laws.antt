-- Laws of pages as bytes.
use Rattle.std.specs.Prelude.{◌≡◌, ◌≢◌, ◌⊎◌, ◌<◌, ◌≤◌, ◌^◌, ℕ, ◌+◌, ◌-◌, List, [], ◌++◌, length, take, get_or, Ok, Err}
use Rattle.io_traits.specs.declared.pages.PageState.{PageState}
use Rattle.queue_page.specs.Elements.{element_at}
use Rattle.queue_page.specs.Runs.{run, behind}
use Rattle.queue_page.specs.Pages.{PageRows, recorded}
use Rattle.queue_page.specs.Grammar.{IsElement, AreElements, IsPage}
use Rattle.queue_page.specs.declared.fault.Mismatch.{Mismatch}
use Rattle.queue_page.specs.declared.row.PageRow.{PageRow}

abbrev pub AreBytes : List ℕ → Type 0
AreBytes bytes = (i : ℕ) → get_or bytes i 0 < 256

-- the element of a row is read as that row, whatever stands behind it
abbrev pub ElementsAreRead : Type 0
ElementsAreRead = (version place : ℕ) (row : PageRow) (front rest : List ℕ) → IsElement version place row front → element_at version row.number place (front ++ rest) ≡ Ok row

-- and what is read as a row stands in front as its element
abbrev pub ElementsAreSpelled : Type 0
ElementsAreSpelled =
    (version number place : ℕ) (bytes : List ℕ) (row : PageRow) → (version ≡ 1) ⊎ (version ≡ 2) → AreBytes bytes → element_at version number place bytes ≡ Ok row
    → (size : ℕ) × (size ≤ length bytes) × IsElement version place row (take size bytes)

-- no element begins another
abbrev pub NoElementBeginsAnother : Type 0
NoElementBeginsAnother =
    (version place : ℕ) (row other : PageRow) (bytes more : List ℕ) → IsElement version place row bytes → IsElement version place other (bytes ++ more) → (row ≡ other) × (more ≡ [])

-- A run is the longest: elements of rows that stand in front are in it, up to its limit.
abbrev pub RunsAreLongest : Type 0
RunsAreLongest =
    (limit version number place : ℕ) (rows : List PageRow) (front rest : List ℕ) → AreElements version number place rows front → length rows ≤ limit
    → run limit version number place (front ++ rest) ≡ behind rows (run (limit - length rows) version (number + length rows) (place + length front) rest)

-- A page with as many rows and bytes as are recorded is read as that page, whatever stands behind it.
abbrev pub PagesAreRead : Type 0
PagesAreRead =
    (s : PageState) (version : ℕ) (rows : List PageRow) (page rest : List ℕ) → IsPage page version s.least rows → s.length ≡ length page → s.count ≡ length rows
    → recorded s (page ++ rest) ≡ Ok (record { version = version; rows = rows; length = s.length })

-- And what is read of the recorded extent is a page.
abbrev pub PagesAreSpelled : Type 0
PagesAreSpelled =
    (s : PageState) (file : List ℕ) (page : PageRows) → AreBytes (take s.length file) → recorded s file ≡ Ok page
    → IsPage (take s.length file) page.version s.least page.rows × (length page.rows ≡ s.count) × (page.length ≡ s.length)

-- What is told of a damage are two numbers that differ.
abbrev pub DamageDiffers : Type 0
DamageDiffers =
    (s : PageState) (file : List ℕ) (damage : Mismatch) → AreBytes file → 1 ≤ s.least → s.length < 2 ^ 64 → recorded s file ≡ Err damage → damage.found ≢ damage.expected
