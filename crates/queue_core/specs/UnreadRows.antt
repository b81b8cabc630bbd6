-- The unread rows of a queue that is open, from its opening on, and what its calls make of them.
use Rattle.std.specs.Prelude.{◌≡◌, ◌⊎◌, ◌≤◌, ◌<◌, ◌==◌, ℕ, true, List, [], ◌∷◌, ◌++◌, IsTrue, if◌then◌else◌, ⊤}
use Rattle.io_traits.specs.declared.stores.Store.{Ghosts as StoreWords}
use Rattle.event_tree.specs.Events.{Ev}
use Rattle.element_code.specs.declared.row.Origin.TheVariants.{Id}
use Rattle.queue_files.specs.Found.{Row}
use Rattle.queue_files.specs.Kept.{Queue, all_rows}
use Rattle.queue_files.specs.Steps.{marked}
use Rattle.queue_files.specs.declared.opening.OpenedQueue.{OpenedQueue}
use Rattle.queue_core.specs.Acknowledging.{acknowledged}
use Rattle.queue_core.specs.Calls.{behind_acknowledge, behind_mark, behind_purge, end_of, first_open}
use Rattle.queue_core.specs.Opening.{queue_opened, OpensAs}
use Rattle.queue_core.specs.Opens.{Becomes, Opens, purged}
use Rattle.queue_core.specs.QueueBatches.{AreNamed, AreUnread, IsRead}
use Rattle.queue_core.specs.Taking.{all_pages}
use Rattle.queue_core.specs.Views.{OpenPageView, CursorView, QueueView}
use Rattle.queue_core.specs.Writing.{behind_write, frame_size, needs_page, with_written}
use Rattle.queue_core.specs.declared.limits.Limits.{Limits}
use Rattle.queue_core.specs.declared.limits.Numbers.{Numbers}

-- the number of the first row of a page that isn't given, unless all of them are
abbrev pub next_in : CursorView → OpenPageView → ℕ
next_in c o = if o.number == c.page then c.number else o.page.state.least

-- Of each page the rows that are acknowledged from the first on were given, or are recorded: a mark passes over none that is unread.
abbrev pub AreGiven : CursorView → List OpenPageView → Type 0
AreGiven c [] = ⊤
AreGiven c (o ∷ pages) = ((o.number < c.page) ⊎ ((first_open o ≤ o.from) ⊎ (first_open o ≤ next_in c o))) × AreGiven c pages

-- the next row of a queue
abbrev pub next_row : QueueView → List ℕ → Ev → Row
next_row v origin event = record { number = end_of v.top; origin = Id origin; event = event }

module _ {S : Type 0} (store : StoreWords S) where
  -- the store holds this queue, which is the one that is open, and these rows of it are unread
  pub record HasUnread (v : QueueView) (q : Queue) (rows : List Row) (s : S) : Type 0 where
    pub opens : Opens store v q s
    pub named : AreNamed v.folder (all_pages v)
    pub unread : AreUnread (store.seen s) v q rows

  -- Its reads give the queue, so that a batch takes the first of these rows. All rows of a queue that was just opened are unread, but those
  -- that were recorded as acknowledged.
  pub record OpenedRowsAreUnread : Type 0 where
    pub reads : (v : QueueView) (q : Queue) (rows : List Row) (s : S) → IsTrue store.tells → HasUnread v q rows s → IsRead (store.seen s) v q
    pub opened : (folder : List ℕ) (limits : Limits) (o : OpenedQueue) (old new : S) → IsTrue store.tells → (made : OpensAs store (queue_opened folder limits o) o old new)
        → HasUnread (queue_opened folder limits o) made.queue (all_rows made.queue.tails made.queue.top) new

  -- An acknowledgement leaves all unread rows unread.
  abbrev pub AcknowledgedLeavesUnread : Type 0
  AcknowledgedLeavesUnread =
      (v : QueueView) (q : Queue) (rows : List Row) (numbers : Numbers) (s : S) → HasUnread v q rows s → HasUnread (behind_acknowledge numbers v) (acknowledged numbers q) rows s

  -- A mark does, too, where each acknowledged row was given.
  abbrev pub MarkLeavesUnread : Type 0
  MarkLeavesUnread =
      (v : QueueView) (q : Queue) (rows : List Row) (old new : S) → IsTrue store.tells → Becomes store marked v (behind_mark v) old new → AreGiven v.cursor (all_pages v)
      → HasUnread v q rows old → HasUnread (behind_mark v) (marked q) rows new

  -- A page that goes has no unread row.
  abbrev pub PurgeLeavesUnread : Type 0
  PurgeLeavesUnread = (v : QueueView) (q : Queue) (rows : List Row) (old new : S) → IsTrue store.tells → Becomes store purged v (behind_purge v) old new → HasUnread v q rows old → HasUnread (behind_purge v) (purged q) rows new

  -- A row that is written comes behind all unread ones. Where it needs a new page, a mark stands in front.
  abbrev pub WrittenComesLast : Type 0
  WrittenComesLast =
      (v : QueueView) (q : Queue) (rows : List Row) (origin : List ℕ) (event : Ev) (old new : S) → IsTrue store.tells
      → Becomes store (with_written v origin event) v (behind_write (frame_size origin event) v) old new → (needs_page (frame_size origin event) v ≡ true → AreGiven v.cursor (all_pages v))
      → HasUnread v q rows old → HasUnread (behind_write (frame_size origin event) v) (with_written v origin event q) (rows ++ next_row v origin event ∷ []) new

  -- So it is of a queue that was opened, and of one of which all is recorded: no acknowledged row is unread unless that is recorded.
  pub record AllAreGiven : Type 0 where
    pub opened : (folder : List ℕ) (limits : Limits) (o : OpenedQueue) (old new : S) → OpensAs store (queue_opened folder limits o) o old new
        → AreGiven (queue_opened folder limits o).cursor (all_pages (queue_opened folder limits o))
    pub marked : (v : QueueView) → AreGiven v.cursor (all_pages (behind_mark v))
