-- What holds a queue is opened again.
use Rattle.std.specs.Prelude.{◌+◌, ⊤, ℕ, List, length, Result, Ok, Err}
use Rattle.io_traits.specs.declared.stores.Store.{Ghosts as StoreWords}
use Rattle.io_traits.specs.declared.queue_faults.QueueFault.{QueueFault}
use Rattle.queue_files.specs.Folders.{Folder, names_in}
use Rattle.queue_files.specs.Kept.{Queue, Kept, RowsKept, all_rows}
use Rattle.queue_files.specs.Collected.{IsNoDamage}
use Rattle.queue_files.specs.Marks.{read_in}
use Rattle.queue_files.specs.declared.opening.OpenedQueue.{OpenedQueue}
use Rattle.queue_core.specs.Opening.{FindsQueue, OpensAs}
use Rattle.queue_core.specs.Views.{QueueView}
use Rattle.queue_core.specs.declared.limits.Limits.{Limits}

-- a queue was opened, or the store failed, or there was no memory
abbrev pub IsUndamaged : {X : Type 0} → Result X QueueFault → Type 0
IsUndamaged (Ok x) = ⊤
IsUndamaged (Err fault) = IsNoDamage fault

-- A queue opens again as this one, or as what a stop left of it: page by page it has the rows that weren't acknowledged when that was last recorded,
-- or aren't now, and of those behind the last record the first, be they none or all.
abbrev pub OpensAgain : Queue → Queue → Type 0
OpensAgain q opened = RowsKept q q.tails (all_rows opened.tails opened.top) (opened.top.least + length opened.top.rows)

module _ {S : Type 0} (store : StoreWords S) where
  -- A folder that holds a queue, as each does that a stop at any moment of a call leaves, is never found damaged; and what is opened of it is that
  -- queue again.
  pub record WhatIsKeptIsOpened : Type 0 where
    pub undamaged : (folder : List ℕ) (limits : Limits) (q : Queue) (f : Folder) (result : Result QueueView QueueFault) → Kept q f → FindsQueue folder limits f result → IsUndamaged result
    pub again : (v : QueueView) (o : OpenedQueue) (old new : S) (q : Queue) → Kept q (read_in (names_in v.folder) (store.seen old)) → (made : OpensAs store v o old new) → OpensAgain q made.queue
