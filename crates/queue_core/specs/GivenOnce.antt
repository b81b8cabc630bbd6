-- Each row of a queue is given once, in the order of the numbers: whole runs of its calls.
use Rattle.std.specs.Prelude.{◌≡◌, ◌↔◌, ◌⊎◌, ◌≤◌, ◌==◌, ◌&&◌, ◌||◌, ℕ, suc, Bool, false, IsTrue, List, [], ◌∷◌, ◌++◌, map, Option, None, Some, Ok, ⊤}
use Rattle.io_traits.specs.Folders.{Content}
use Rattle.io_traits.specs.Calls.{ChangesNothing}
use Rattle.io_traits.specs.declared.stores.Store.{Ghosts as StoreWords}
use Rattle.event_tree.specs.Events.{Ev}
use Rattle.queue_files.specs.Found.{Row}
use Rattle.queue_files.specs.Kept.{Queue, all_rows}
use Rattle.queue_files.specs.Steps.{marked}
use Rattle.queue_files.specs.declared.opening.OpenedQueue.{OpenedQueue}
use Rattle.queue_core.specs.Calls.{behind_acknowledge, behind_mark, behind_purge, end_of}
use Rattle.queue_core.specs.Keeping.{KeepsOne, with_kept}
use Rattle.queue_core.specs.Opening.{queue_opened, OpensAs}
use Rattle.queue_core.specs.Opens.{Becomes, purged}
use Rattle.queue_core.specs.Taking.{all_pages, GivesNextRows, HasSameNext}
use Rattle.queue_core.specs.UnreadRows.{HasUnread, next_row}
use Rattle.queue_core.specs.Views.{OpenPageView, QueueView}
use Rattle.queue_core.specs.Writing.{behind_write, frame_size, with_written}
use Rattle.queue_core.specs.declared.batch.Batch.{Batch}
use Rattle.queue_core.specs.declared.kept.KeptRow.{KeptRow}
use Rattle.queue_core.specs.declared.limits.Limits.{Limits}

-- ---- rows and their numbers

-- of rows one behind the other, the first of which has this number, that with the other number is acknowledged
abbrev pub is_set_at : ℕ → List Bool → ℕ → Bool
is_set_at number [] n = false
is_set_at number (b ∷ bits) n = (b && (number == n)) || is_set_at (suc number) bits n

-- a row of these pages has this number and is acknowledged
abbrev pub is_acknowledged : List OpenPageView → ℕ → Bool
is_acknowledged [] n = false
is_acknowledged (o ∷ pages) n = is_set_at o.page.state.least o.acknowledged n || is_acknowledged pages n

-- none of these rows is acknowledged
abbrev pub AreOpen : List OpenPageView → List Row → Type 0
AreOpen pages [] = ⊤
AreOpen pages (row ∷ rows) = (is_acknowledged pages row.number ≡ false) × AreOpen pages rows

-- their numbers rise, from one on, below another
abbrev pub AreRising : ℕ → List Row → ℕ → Type 0
AreRising from [] end = from ≤ end
AreRising from (row ∷ rows) end = (from ≤ row.number) × AreRising (suc row.number) rows end

-- A batch that a queue gives, and the queue behind it.
abbrev pub IsBatch : ℕ → Content → QueueView → Option Batch → QueueView → Type 0
IsBatch most content v batch next = GivesNextRows most content v (Ok batch) next

-- a batch has the numbers and the events of these rows
pub record IsOf (batch : Batch) (rows : List Row) : Type 0 where
  pub numbers : batch.rows ≡ map (λ (row : Row). row.number) rows
  pub events : batch.events ≡ map (λ (row : Row). row.event) rows

-- batches have those of these rows, one behind the other
abbrev pub AreOf : List Batch → List Row → Type 0
AreOf [] rows = rows ≡ []
AreOf (batch ∷ batches) rows = (front : List Row) × (rest : List Row) × (rows ≡ front ++ rest) × IsOf batch front × AreOf batches rest

-- with one more, if there is one
abbrev pub with_batch : List Batch → Option Batch → List Batch
with_batch batches None = batches
with_batch batches (Some batch) = batches ++ batch ∷ []

-- this is one of these batches
abbrev pub IsGiven : Batch → List Batch → Type 0
IsGiven batch [] = ⊥
IsGiven batch (b ∷ batches) = (batch ≡ b) ⊎ IsGiven batch batches

-- rows whose numbers rise, none of which is one of a batch, or before it
abbrev pub AreBehind : List Batch → List Row → ℕ → Type 0
AreBehind [] rows end = ⊤
AreBehind (batch ∷ batches) rows end = AreRising batch.numbers.behind rows end × AreBehind batches rows end

module _ {S : Type 0} (store : StoreWords S) where
  -- The store holds this queue, which is the one that is open. These rows are those that it gives next: their numbers rise from that of the next row on, and none of
  -- them is acknowledged.
  pub record GivesNext (v : QueueView) (q : Queue) (rows : List Row) (s : S) : Type 0 where
    pub unread : HasUnread store v q rows s
    pub still : AreOpen (all_pages v) rows
    pub rise : AreRising v.cursor.number rows (end_of v.top)

  -- ---- whole runs

  -- Calls of a queue that is open, one behind the other, each of which succeeds, but that a call for a batch may fail: the batches that they gave, the rows that they wrote, and the queue and the
  -- store behind them. A batch that was given may be acknowledged at any time.
  pub data Calls (v : QueueView) (s : S) : List Batch → List Row → QueueView → S → Type 0 where
    no_call : Calls v s [] [] v s
    write : {given : List Batch} {written : List Row} {w : QueueView} {old new : S} (origin : List ℕ) (event : Ev) → Calls v s given written w old
        → Becomes store (with_written w origin event) w (behind_write (frame_size origin event) w) old new
        → Calls v s given (written ++ next_row w origin event ∷ []) (behind_write (frame_size origin event) w) new
    write_and_keep : {given : List Batch} {written : List Row} {w : QueueView} {old new : S} (origin : List ℕ) (event : Ev) (kept : List KeptRow) → Calls v s given written w old
        → Becomes store (with_written w origin event) w (with_kept kept (behind_write (frame_size origin event) w)) old new → KeepsOne w.cursor.kept kept
        → Calls v s given (written ++ next_row w origin event ∷ []) (with_kept kept (behind_write (frame_size origin event) w)) new
    take_batch : {given : List Batch} {written : List Row} {w next : QueueView} {old new : S} (most : ℕ) (batch : Option Batch) → Calls v s given written w old → IsBatch most (store.seen old) w batch next
        → ChangesNothing store.tells store.seen store.moment store.may_leave old new → Becomes store (λ q. q) w next old new → Calls v s (with_batch given batch) written next new
    no_batch : {given : List Batch} {written : List Row} {w next : QueueView} {old new : S} → Calls v s given written w old → HasSameNext w next
        → ChangesNothing store.tells store.seen store.moment store.may_leave old new → Becomes store (λ q. q) w next old new → Calls v s given written next new
    acknowledge : {given : List Batch} {written : List Row} {w : QueueView} {now : S} (batch : Batch) → Calls v s given written w now → IsGiven batch given
        → Calls v s given written (behind_acknowledge batch.numbers w) now
    mark : {given : List Batch} {written : List Row} {w : QueueView} {old new : S} → Calls v s given written w old → Becomes store marked w (behind_mark w) old new
        → Calls v s given written (behind_mark w) new
    purge : {given : List Batch} {written : List Row} {w : QueueView} {old new : S} → Calls v s given written w old → Becomes store purged w (behind_purge w) old new
        → Calls v s given written (behind_purge w) new

  -- The rows of these batches, and behind them those that a queue gives next, are all of these, whose numbers rise.
  pub record StillGives (given : List Batch) (all : List Row) (v : QueueView) (s : S) : Type 0 where
    pub queue : Queue
    pub rows : List Row
    pub next : GivesNext v queue rows s
    pub front : List Row
    pub are : AreOf given front
    pub are_all : front ++ rows ≡ all
    pub in_order : AreRising 0 all (end_of v.top)
    pub behind : AreBehind given rows (end_of v.top)

  -- A queue that was opened gives the rows that were found next. Whatever calls come behind, the rows that they gave and those that are given next are these and the ones that were written, each once,
  -- in the order of their numbers. There is no batch exactly where none of them is left.
  pub record RowsAreGivenOnce : Type 0 where
    pub opened : (folder : List ℕ) (limits : Limits) (o : OpenedQueue) (old new : S) → IsTrue store.tells → (made : OpensAs store (queue_opened folder limits o) o old new)
        → GivesNext (queue_opened folder limits o) made.queue (all_rows made.queue.tails made.queue.top) new
    pub calls : (v : QueueView) (q : Queue) (rows : List Row) (s : S) → IsTrue store.tells → GivesNext v q rows s → (given : List Batch) (written : List Row) (w : QueueView) (new : S)
        → Calls v s given written w new → StillGives given (rows ++ written) w new
    pub none : (v : QueueView) (q : Queue) (rows : List Row) (s : S) → IsTrue store.tells → GivesNext v q rows s → (most : ℕ) (batch : Option Batch) (next : QueueView) → 1 ≤ most
        → IsBatch most (store.seen s) v batch next → (batch ≡ None) ↔ (rows ≡ [])
