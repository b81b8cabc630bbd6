-- How many rows a folder that was read holds.
use Rattle.std.specs.Prelude.{ℕ, ◌+◌, ◌-◌, List, [], ◌∷◌}
use Rattle.io_traits.specs.declared.pages.PageState.{PageState}
use Rattle.queue_page.specs.Views.{PageView}
use Rattle.queue_files.specs.declared.opening.OpenedQueue.{OpenedQueue}
use Rattle.queue_files.specs.declared.sealed_pages.SealedPage.{SealedPage}

-- how many rows of a page come from this number on
abbrev pub rows_from : ℕ → PageState → ℕ
rows_from first_open s = s.count - (first_open - s.least)

-- of pages below the head those that aren't recorded as acknowledged
abbrev pub tail_rows : List SealedPage → List PageView → ℕ
tail_rows [] views = 0
tail_rows (t ∷ tails) [] = 0
tail_rows (t ∷ tails) (v ∷ views) = rows_from t.state.first_open v.state + tail_rows tails views

-- of all pages
abbrev pub open_rows : OpenedQueue → ℕ
open_rows o = tail_rows o.pages.tails.items o.pages.pages.items + rows_from o.state.first_open o.pages.top.state
