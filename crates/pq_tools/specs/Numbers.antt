-- The numbers of rows and of pages that a new queue has, and the rows that take them.
use Rattle.std.specs.Prelude.{ℕ, ◌^◌, ◌-◌, ◌||◌, Bool, false, List, [], ◌∷◌}
use Rattle.io_traits.specs.declared.pages.PageState.{PageState}
use Rattle.queue_files.specs.Folders.{Folder}
use Rattle.queue_files.specs.Found.{Row}
use Rattle.queue_core.specs.Opening.{page_opened, queue_with}
use Rattle.queue_core.specs.Views.{QueueView}
use Rattle.queue_core.specs.Writing.{behind_write, frame_size, numbers_spent}
use Rattle.queue_core.specs.declared.limits.Limits.{Limits}
use Rattle.pq_tools.specs.Salvage.{named, salvage}

-- its pages have up to 64 MiB, and all together have no limit
abbrev pub limits : Limits
limits = record { page_capacity = 0x400_0000; max_bytes = 2 ^ 64 - 1 }

-- the queue that is made in a folder without files: one page without rows, the first of which will have the number 1
abbrev pub new_state : PageState
new_state = record { page = 0; first_open = 1; least = 1; count = 0; length = 1 }

abbrev pub new_queue : List ℕ → QueueView
new_queue folder = queue_with folder limits [] (page_opened folder 0 0 1 (record { version = 2; state = new_state }))

-- how many bytes a row has there
abbrev pub row_size : Row → ℕ
row_size r = frame_size (named r.origin) r.event

-- a queue to which these rows were written, one behind the other
abbrev pub behind_rows : QueueView → List Row → QueueView
behind_rows v [] = v
behind_rows v (r ∷ rows) = behind_rows (behind_write (row_size r) v) rows

-- when one of them comes, the queue has no number left for it, or none for the page that it needs
abbrev pub runs_out : QueueView → List Row → Bool
runs_out v [] = false
runs_out v (r ∷ rows) = numbers_spent (row_size r) v || runs_out (behind_write (row_size r) v) rows

-- so it is of a new queue and of the rows that are taken of a folder
abbrev pub spends_numbers : List ℕ → Folder → Bool
spends_numbers target folder = runs_out (new_queue target) (salvage folder)
