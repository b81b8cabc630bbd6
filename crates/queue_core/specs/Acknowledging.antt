-- What an acknowledgement makes of the queue of a folder.
use Rattle.std.specs.Prelude.{map}
use Rattle.io_traits.specs.declared.stores.Store.{Ghosts as StoreWords}
use Rattle.queue_files.specs.Kept.{Page, Queue}
use Rattle.queue_core.specs.Bits.{with_range}
use Rattle.queue_core.specs.Calls.{behind_acknowledge}
use Rattle.queue_core.specs.Opens.{IsReady, Opens}
use Rattle.queue_core.specs.Views.{QueueView}
use Rattle.queue_core.specs.declared.limits.Numbers.{Numbers}

-- the rows of a page that have these numbers are acknowledged
abbrev pub acknowledged_page : Numbers → Page → Page
acknowledged_page numbers p = record p { acknowledged = with_range p.least numbers.first numbers.behind p.acknowledged }

-- those of all pages
abbrev pub acknowledged : Numbers → Queue → Queue
acknowledged numbers q = record q { tails = map (acknowledged_page numbers) q.tails; top = acknowledged_page numbers q.top }

-- A store that holds the queue of a folder holds it with these rows acknowledged, which nothing records yet.
abbrev pub AcknowledgedIsOpen : {S : Type 0} → StoreWords S → Type 0
AcknowledgedIsOpen {S} store =
    (v : QueueView) (q : Queue) (s : S) (numbers : Numbers) → Opens store v q s → Opens store (behind_acknowledge numbers v) (acknowledged numbers q) s

-- A queue that takes calls does so with rows acknowledged.
abbrev pub AcknowledgedIsReady : {S : Type 0} → StoreWords S → Type 0
AcknowledgedIsReady {S} store = (v : QueueView) (s : S) (numbers : Numbers) → IsReady store v s → IsReady store (behind_acknowledge numbers v) s
