-- What the calls of a queue make of it, as contracts see it.
use Rattle.std.specs.Prelude.{◌≡◌, ◌≤◌, ◌^◌, ℕ, ◌+◌, ◌-◌, ◌==◌, nat_lt, not, Bool, true, List, [], ◌∷◌, ◌++◌, length, map, Option, Some, None, if◌then◌else◌}
use Rattle.crc_frame.specs.Slots.{next_turn}
use Rattle.io_traits.specs.declared.pages.PageState.{PageState}
use Rattle.queue_files.specs.Folders.{head, page, checkpoint, names_in}
use Rattle.queue_files.specs.Kept.{leading}
use Rattle.queue_files.specs.declared.marking.Mark.{Mark}
use Rattle.queue_core.specs.Bits.{with_range}
use Rattle.queue_core.specs.Views.{OpenPageView, QueueView}
use Rattle.queue_core.specs.declared.limits.Numbers.{Numbers}

-- ---- a page

-- the number behind its last row
abbrev pub end_of : OpenPageView → ℕ
end_of o = o.page.state.least + o.page.state.count

-- the first number that isn't acknowledged now, or that behind its last row
abbrev pub first_open : OpenPageView → ℕ
first_open o = o.page.state.least + leading o.acknowledged

-- what is acknowledged now isn't recorded
abbrev pub is_due : OpenPageView → Bool
is_due o = not (first_open o == o.from)

-- all its rows are recorded as acknowledged
abbrev pub is_spent : OpenPageView → Bool
is_spent o = not (nat_lt o.from (end_of o))

-- ---- all pages

-- how many bytes they have
abbrev pub tail_bytes : List OpenPageView → ℕ
tail_bytes [] = 0
tail_bytes (o ∷ tails) = o.page.state.length + tail_bytes tails

abbrev pub bytes_in : QueueView → ℕ
bytes_in v = tail_bytes v.tails + v.top.page.state.length

-- the checkpoints of pages below the head, and of all pages
abbrev pub tail_checkpoints : List ℕ → List OpenPageView → List (List ℕ)
tail_checkpoints folder tails = map (λ o. names_in folder (checkpoint o.number)) tails

abbrev pub checkpoints : QueueView → List (List ℕ)
checkpoints v = tail_checkpoints v.folder v.tails ++ names_in v.folder head ∷ []

-- ---- rows that are acknowledged

-- those of a page that have numbers from the first on, below the second
abbrev pub with_acknowledged : Numbers → OpenPageView → OpenPageView
with_acknowledged numbers o = record o { acknowledged = with_range o.page.state.least numbers.first numbers.behind o.acknowledged }

abbrev pub behind_acknowledge : Numbers → QueueView → QueueView
behind_acknowledge numbers v = record v { tails = map (with_acknowledged numbers) v.tails; top = with_acknowledged numbers v.top }

-- ---- a mark

-- how a page stands now
abbrev pub state_of : OpenPageView → PageState
state_of o = record { page = o.number; first_open = first_open o; least = o.page.state.least; count = o.page.state.count; length = o.page.state.length }

-- what is to be recorded of it next, in a mark for its checkpoint
abbrev pub mark_of : OpenPageView → Bool → Mark → Mark
mark_of o due m = record { file = m.file; turn = next_turn o.turn; state = state_of o; due = due }

-- of pages below the head, and then of the head page
abbrev pub tail_marks : List OpenPageView → List Mark → List Mark
tail_marks [] marks = marks
tail_marks (o ∷ tails) [] = []
tail_marks (o ∷ tails) (m ∷ marks) = mark_of o (is_due o) m ∷ tail_marks tails marks

-- of all pages: the head page is recorded in any case
abbrev pub marks_of : List OpenPageView → OpenPageView → List Mark → List Mark
marks_of [] top [] = []
marks_of [] top (m ∷ marks) = mark_of top true m ∷ marks
marks_of (o ∷ tails) top [] = []
marks_of (o ∷ tails) top (m ∷ marks) = mark_of o (is_due o) m ∷ marks_of tails top marks

-- a page of which what is acknowledged now was recorded
abbrev pub with_recorded : OpenPageView → OpenPageView
with_recorded o = record o { from = first_open o; turn = next_turn o.turn }

-- below the head that is done where it isn't recorded yet
abbrev pub with_marked : OpenPageView → OpenPageView
with_marked o = record o { from = first_open o; turn = if first_open o == o.from then o.turn else next_turn o.turn }

abbrev pub behind_mark : QueueView → QueueView
behind_mark v = record v { tails = map with_marked v.tails; top = with_recorded v.top }

-- the highest number that was written
abbrev pub last_number : QueueView → ℕ
last_number v = end_of v.top - 1

-- ---- a page that goes

-- the place of the first page that is spent, its number, and the pages without it
abbrev pub spent_from : ℕ → List OpenPageView → Option ℕ
spent_from place [] = None
spent_from place (o ∷ tails) = if is_spent o then Some place else spent_from (place + 1) tails

abbrev pub first_spent : List OpenPageView → Option ℕ
first_spent [] = None
first_spent (o ∷ tails) = if is_spent o then Some o.number else first_spent tails

abbrev pub without_spent : List OpenPageView → List OpenPageView
without_spent [] = []
without_spent (o ∷ tails) = if is_spent o then tails else o ∷ without_spent tails

abbrev pub behind_purge : QueueView → QueueView
behind_purge v = record v { tails = without_spent v.tails }

-- ---- what is held in memory

-- of a page each row is acknowledged or not, and its rows have numbers below 2^63 - 1
pub record IsHeldPage (o : OpenPageView) : Type 0 where
  pub each : length o.acknowledged ≡ o.page.state.count
  pub numbers : end_of o ≤ 2 ^ 63 - 1

-- the pages are those of the folder, there is a mark for each checkpoint, and the bytes are counted
pub record IsHeldQueue (v : QueueView) (marks : List Mark) (bytes : ℕ) : Type 0 where
  pub tails : map (λ o. o.file) v.tails ≡ map (λ o. names_in v.folder (page o.number)) v.tails
  pub top : v.top.file ≡ names_in v.folder (page v.top.number)
  pub marks_are : map (λ m. m.file) marks ≡ checkpoints v
  pub bytes_are : bytes ≡ bytes_in v
