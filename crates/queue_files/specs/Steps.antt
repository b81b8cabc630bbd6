-- What a queue is at first, and what it becomes by its calls.
use Rattle.std.specs.Prelude.{◌≡◌, ◌≤◌, ◌<◌, ◌^◌, suc, ◌+◌, ◌-◌, ◌==◌, false, List, [], ◌∷◌, ◌++◌, length, if◌then◌else◌}
use Rattle.crc_frame.specs.Slots.{next_turn}
use Rattle.queue_page.specs.declared.row.PageRow.{PageRow}
use Rattle.queue_files.specs.Kept.{Page, Queue, first_open_of}

-- ---- a new queue

-- a page of version 2 without rows, whose next number is 1
abbrev pub first_page : Page
first_page = record { number = 0; version = 2; least = 1; rows = []; acknowledged = []; from = 1; turn = 0 }

abbrev pub first_queue : Queue
first_queue = record { tails = []; top = first_page; marked = 0 }

-- ---- a mark

-- a page of which what is acknowledged now was recorded
abbrev pub recorded_page : Page → Page
recorded_page p = record p { from = first_open_of p; turn = next_turn p.turn }

-- below the head that is done where it isn't recorded yet
abbrev pub marked_page : Page → Page
marked_page p = record p { from = first_open_of p; turn = if first_open_of p == p.from then p.turn else next_turn p.turn }

abbrev pub marked_pages : List Page → List Page
marked_pages [] = []
marked_pages (p ∷ tails) = marked_page p ∷ marked_pages tails

-- the queue of which all is recorded
abbrev pub marked : Queue → Queue
marked q = record { tails = marked_pages q.tails; top = recorded_page q.top; marked = length q.top.rows }

-- ---- a row

-- the head page with a row more, which isn't acknowledged
abbrev pub page_with : PageRow → Page → Page
page_with row p = record p { rows = p.rows ++ row ∷ []; acknowledged = p.acknowledged ++ false ∷ [] }

abbrev pub with_row : PageRow → Queue → Queue
with_row row q = record q { top = page_with row q.top }

-- ---- a new head page

-- the head page when it is one below the head; its own checkpoint begins with turn 0
abbrev pub sealed : Page → Page
sealed p = record p { turn = 0 }

-- The page behind it, which has version 2 and no rows. The head slot speaks of it in its next turn.
abbrev pub next_top : Page → Page
next_top p = record {
  number = suc p.number;
  version = 2;
  least = p.least + length p.rows;
  rows = [];
  acknowledged = [];
  from = p.least + length p.rows;
  turn = next_turn p.turn;
}

abbrev pub rolled : Queue → Queue
rolled q = record { tails = q.tails ++ sealed q.top ∷ []; top = next_top q.top; marked = 0 }

-- all is recorded, and there is a number left for a page
pub record CanRoll (q : Queue) : Type 0 where
  pub marked : q.marked ≡ length q.top.rows
  pub from : q.top.from ≡ first_open_of q.top
  pub number : suc q.top.number < 2 ^ 32 - 1

-- ---- a page that goes

-- all its rows are recorded as acknowledged
abbrev pub IsSpent : Page → Type 0
IsSpent p = p.least + length p.rows ≤ p.from

abbrev pub with_tails : List Page → Queue → Queue
with_tails tails q = record q { tails = tails }
