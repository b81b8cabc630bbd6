-- Whatever a stop leaves of a queue on the way of a step, it may leave before the step.
use Rattle.std.proofs.Common.{ℕ, suc, ◌+◌, List, [], ◌∷◌, ◌++◌, length, subst}
use Rattle.event_flow.specs.Meaning.{Makes}
use Rattle.queue_files.specs.Folders.{Folder, folder_in}
use Rattle.queue_files.specs.Kept.{Page, Queue, Kept, IsSound, Rising}
use Rattle.queue_files.proofs.FolderKeeping.{marked_keeps, marked_rolled_keeps, purged_keeps}
use Rattle.history_book.specs.Contents.{Bytes}
use Rattle.history_book.specs.Queues.{IsQueueAt}
use Rattle.history_book.specs.Sound.{Places}
use Rattle.history_book.specs.States.{State, start, after}
use Rattle.line_machine.specs.Laws.{IsOnTheWay, All_recorded, Page_begun, Page_gone, WaysLeaveNoMore}

-- each page of a queue is sound
sound_in : (number end : ℕ) (before behind : List Page) (p top : Page) → Rising number end (before ++ p ∷ behind) top → IsSound p
sound_in number end [] behind p top rising = rising.3
sound_in number end (b ∷ before) behind p top rising = sound_in (suc b.number) (b.least + length b.rows) before behind p top rising.4

kept_before : (s : State) (old new : Queue) (folder : Folder) → IsQueueAt s old → IsOnTheWay old new → Kept new folder → Kept old folder
kept_before s old _ folder at All_recorded kept = marked_keeps old folder at.recorded kept
kept_before s old _ folder at Page_begun kept = marked_rolled_keeps old folder at.recorded kept
kept_before s old _ folder at (Page_gone h) kept =
    purged_keeps old h.before h.behind h.page folder h.tails (sound_in 0 0 h.before h.behind h.page old.top (subst (λ l. Rising 0 0 l old.top) h.tails at.is)) h.spent kept

pub ways_leave_no_more : (makes : Makes) (bytes : Bytes) (places : Places) → WaysLeaveNoMore makes bytes places
ways_leave_no_more makes bytes places told i q image stands way left = record {
  queue = kept_before (after makes start told) i.holds.queue q (folder_in places.queue image) stands.holds.queue way left.queue;
  files = left.files;
  dead = left.dead;
}
