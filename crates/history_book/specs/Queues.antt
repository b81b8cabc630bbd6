-- When a queue is that of a pipeline which told a history, and what of both is left by each step.
use Rattle.std.specs.Prelude.{◌≡◌, ◌≢◌, ◌⊎◌, ◌≤◌, ◌<◌, ⊤, ℕ, suc, ◌+◌, Bool, List, [], ◌∷◌, ◌++◌, length, Option, if◌then◌else◌}
use Rattle.settings_lines.specs.declared.settings.Policy.{Policy}
use Rattle.event_tree.specs.Events.{Ev}
use Rattle.event_flow.specs.Meaning.{Makes}
use Rattle.queue_page.specs.declared.row.PageRow.{PageRow}
use Rattle.queue_files.specs.Folders.{Folder}
use Rattle.queue_files.specs.Found.{Row, Found}
use Rattle.queue_files.specs.Kept.{Page, Queue, all_rows, Kept, IsQueue}
use Rattle.queue_files.specs.Steps.{marked, with_row, rolled, CanRoll, IsSpent, with_tails}
use Rattle.history_book.specs.Entries.{Entry, ParcelAt, Accept, Mark, Read, Ack, Purge, Opened}
use Rattle.history_book.specs.Legal.{Names, IsFound, IsRowOf, IsRunning, MayCome, Fits, Legal_at, Legal}
use Rattle.history_book.specs.Lists.{IsIn}
use Rattle.history_book.specs.States.{Written, State, start, unread, numbers_found, numbers_out, out_of, written, next, after}

-- ---- what a queue holds

-- the numbers of the rows of pages that are acknowledged now
abbrev pub numbers_at : ℕ → List Bool → List ℕ
numbers_at n [] = []
numbers_at n (a ∷ acknowledged) = if a then n ∷ numbers_at (suc n) acknowledged else numbers_at (suc n) acknowledged

abbrev pub acknowledged_in : List Page → Page → List ℕ
acknowledged_in [] top = numbers_at top.least top.acknowledged
acknowledged_in (p ∷ tails) top = numbers_at p.least p.acknowledged ++ acknowledged_in tails top

-- the number of the next row
abbrev pub next_in : Queue → ℕ
next_in q = q.top.least + length q.top.rows

-- A queue is that of a pipeline which stands there: its open rows were written; each that was written is open there or acknowledged; what is acknowledged
-- there is; what is settled was recorded; and its next row has a number that the pipeline may give.
pub record IsQueueAt (s : State) (q : Queue) : Type 0 where
  pub is : IsQueue q
  pub known : (r : Row) → IsIn r (all_rows q.tails q.top) → (w : Written) × IsIn w s.rows × IsRowOf r w
  pub kept : (w : Written) → IsIn w s.rows → IsFound (all_rows q.tails q.top) w ⊎ IsIn w.number s.acknowledged
  pub acknowledged : (w : Written) → IsIn w s.rows → IsIn w.number (acknowledged_in q.tails q.top) → IsIn w.number s.acknowledged
  pub recorded : q.marked ≤ length q.top.rows
  pub settled : s.front < q.top.least + q.marked
  pub low : s.low ≤ next_in q
  pub high : next_in q ≤ s.high

-- ---- what a stop leaves

-- Whatever holds the queue fits where the pipeline stands.
abbrev pub KeptFits : Type 0
KeptFits = (s : State) (q : Queue) (folder : Folder) → IsQueueAt s q → (kept : Kept q folder) → Fits s kept.held

-- ---- what a step makes of both

-- it isn't one of those that do
abbrev pub IsOther : Entry → Type 0
IsOther (Accept input parcel number event) = ⊥
IsOther (Mark front) = ⊥
IsOther (Ack batch) = ⊥
IsOther (Opened rows limit policy) = ⊥
IsOther e = ⊤

-- in this queue rows of these numbers are acknowledged, too
pub record AcknowledgesMore (numbers : List ℕ) (old new : Queue) : Type 0 where
  pub is : IsQueue new
  pub open_rows : all_rows new.tails new.top ≡ all_rows old.tails old.top
  pub more : (n : ℕ) → IsIn n (acknowledged_in new.tails new.top) → IsIn n (acknowledged_in old.tails old.top) ⊎ IsIn n numbers
  pub marked : new.marked ≡ old.marked
  pub least : new.top.least ≡ old.top.least
  pub count : length new.top.rows ≡ length old.top.rows

-- A queue of which these rows are found: all others are acknowledged.
pub record IsOpenedAs (found : Found) (q : Queue) : Type 0 where
  pub is : IsQueue q
  pub rows : all_rows q.tails q.top ≡ found.rows
  pub others : (n : ℕ) → IsIn n (acknowledged_in q.tails q.top) → IsIn n (numbers_found found.rows) → ⊥
  pub next_is : next_in q ≡ found.next
  pub recorded : q.top.least + q.marked ≡ found.recorded
  pub within : q.marked ≤ length q.top.rows

-- All of it is recorded, and a head page begun, which isn't told.
abbrev pub RolledIsOf : Type 0
RolledIsOf =
    (s : State) (q : Queue) → IsQueueAt s q → (IsQueue (marked q) → IsQueueAt s (marked q)) × (CanRoll q → IsQueue (rolled q) → IsQueueAt s (rolled q))

module _ (makes : Makes) where
  -- An event is accepted under the next number, and its row is written: then the queue with the row is the pipeline's. So it may be told of a row that a
  -- fault may have kept from its page.
  abbrev pub AcceptedIsWritten : Type 0
  AcceptedIsWritten =
      (told : List Entry) (q : Queue) (row : PageRow) (input : ℕ) (parcel : Option ParcelAt) (event : Ev) → Legal makes start told → IsRunning (after makes start told)
      → MayCome (after makes start told).plans input parcel → IsQueueAt (after makes start told) q → IsQueue (with_row row q) → row.number ≡ next_in q → row.event ≡ event → Names row.origin (written (after makes start told) input row.number event)
      → Legal_at makes (after makes start told) (Accept input parcel row.number event)
      × IsQueueAt (next makes (after makes start told) (Accept input parcel row.number event)) (with_row row q)

  -- All of the queue is recorded, which is told; the front is its last number.
  abbrev pub MarkedIsSettled : Type 0
  MarkedIsSettled =
      (told : List Entry) (q : Queue) (front : ℕ) → Legal makes start told → IsRunning (after makes start told) → IsQueueAt (after makes start told) q → IsQueue (marked q) → front + 1 ≡ next_in q
      → Legal_at makes (after makes start told) (Mark front) × IsQueueAt (next makes (after makes start told) (Mark front)) (marked q)

  -- rows of a batch are acknowledged of which all was told
  abbrev pub AcknowledgedIsOf : Type 0
  AcknowledgedIsOf =
      (s : State) (q p : Queue) (batch : ℕ) → IsQueueAt s q → AcknowledgesMore (numbers_out (out_of batch s.out)) q p → IsQueueAt (next makes s (Ack batch)) p

  -- A page goes all of whose rows are recorded as acknowledged.
  abbrev pub PurgedIsOf : Type 0
  PurgedIsOf =
      (s : State) (q : Queue) (before behind : List Page) (p : Page) (number : ℕ) → q.tails ≡ before ++ p ∷ behind → IsSpent p → IsQueue (with_tails (before ++ behind) q) → IsQueueAt s q
      → IsQueueAt (next makes s (Purge number)) (with_tails (before ++ behind) q)

  -- a folder that fits is opened
  abbrev pub OpenedIsOf : Type 0
  OpenedIsOf =
      (told : List Entry) (q : Queue) (found : Found) (limit : ℕ) (policy : Policy) → Legal makes start told → Fits (after makes start told) found → IsOpenedAs found q
      → IsQueueAt (next makes (after makes start told) (Opened found.rows limit policy)) q

  -- no other entry changes what a queue has to be
  abbrev pub OthersLeaveIt : Type 0
  OthersLeaveIt = (s : State) (q : Queue) (e : Entry) → IsOther e → IsQueueAt s q → IsQueueAt (next makes s e) q

-- ---- what comes next for a batch

-- these rows of a queue are those of a pipeline, in order
abbrev pub AreRowsOf : List Row → List Written → Type 0
AreRowsOf [] [] = ⊤
AreRowsOf [] (w ∷ ws) = ⊥
AreRowsOf (r ∷ rows) [] = ⊥
AreRowsOf (r ∷ rows) (w ∷ ws) = IsRowOf r w × AreRowsOf rows ws

-- an entry that leaves them
abbrev pub LeavesUnread : Entry → Type 0
LeavesUnread (Accept input parcel number event) = ⊥
LeavesUnread (Read batch generation numbers) = ⊥
LeavesUnread (Opened rows limit policy) = ⊥
LeavesUnread e = ⊤

module _ (makes : Makes) where
  -- The rows that a queue gives next are those of its pipeline that are unread: an accepted one comes last, the first of them may be read for a batch, and
  -- those that an opening finds are all.
  abbrev pub AcceptedComesLast : Type 0
  AcceptedComesLast =
      (told : List Entry) (rows : List Row) (row : Row) (input : ℕ) (parcel : Option ParcelAt) (event : Ev) → Legal makes start told
      → Legal_at makes (after makes start told) (Accept input parcel row.number event) → AreRowsOf rows (unread (after makes start told))
      → IsRowOf row (written (after makes start told) input row.number event)
      → AreRowsOf (rows ++ row ∷ []) (unread (next makes (after makes start told) (Accept input parcel row.number event)))

  abbrev pub FirstAreRead : Type 0
  FirstAreRead =
      (told : List Entry) (front rest : List Row) (batch : ℕ) → Legal makes start told → (running : IsRunning (after makes start told)) → (IsIn batch (after makes start told).used → ⊥) → front ≢ []
      → AreRowsOf (front ++ rest) (unread (after makes start told))
      → Legal_at makes (after makes start told) (Read batch running.plan.generation (numbers_found front))
      × AreRowsOf rest (unread (next makes (after makes start told) (Read batch running.plan.generation (numbers_found front))))

  abbrev pub FoundComeNext : Type 0
  FoundComeNext =
      (told : List Entry) (found : Found) (limit : ℕ) (policy : Policy) → Legal makes start told → Fits (after makes start told) found
      → AreRowsOf found.rows (unread (next makes (after makes start told) (Opened found.rows limit policy)))

  -- no other entry changes them
  abbrev pub OthersLeaveUnread : Type 0
  OthersLeaveUnread =
      (told : List Entry) (e : Entry) → Legal makes start told → Legal_at makes (after makes start told) e → LeavesUnread e
      → unread (next makes (after makes start told) e) ≡ unread (after makes start told)
