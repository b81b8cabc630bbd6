-- The next unread rows of a queue, read of its pages for a batch.
use Rattle.std.specs.Prelude.{◌≡◌, ◌≤◌, ◌⊎◌, ℕ, ◌-◌, ◌==◌, ◌||◌, nat_lt, Bool, false, List, [], ◌∷◌, ◌++◌, length, map, vec_capacity, slice_get, if◌then◌else◌, Option, Some, None, Result, Ok, ⊤}
use Rattle.io_traits.specs.Folders.{Content}
use Rattle.io_traits.specs.Reads.{bytes_of, file_length}
use Rattle.io_traits.specs.declared.queue_faults.Damage.{Damage}
use Rattle.io_traits.specs.declared.queue_faults.QueueFault.{QueueFault}
use Rattle.event_tree.specs.Events.{Ev}
use Rattle.queue_page.specs.Blocks.{IsPart}
use Rattle.queue_page.specs.Elements.{and_then}
use Rattle.queue_page.specs.Views.{PageBufferView}
use Rattle.queue_core.specs.Batching.{is_over, rows_read, Finds}
use Rattle.queue_core.specs.Calls.{end_of, is_spent}
use Rattle.queue_core.specs.Kept.{AreKept}
use Rattle.queue_core.specs.Views.{OpenPageView, CursorView, QueueView}
use Rattle.queue_core.specs.declared.batch.Batch.{Batch}
use Rattle.queue_core.specs.declared.kept.KeptRow.{KeptRow}
use Rattle.queue_core.specs.declared.page_rows.QueueRow.{QueueRow}
use Rattle.queue_core.specs.declared.page_rows.BatchReader.{BatchReader}
use Rattle.queue_core.specs.declared.taking.RowsRead.{RowsRead}

-- how many bytes the bodies of the rows of a batch may have together, unless it has a single row: 64 MiB
abbrev pub batch_bytes : ℕ
batch_bytes = 67108864

-- ---- a page is read

-- rows that are read for a batch, and the number of the page in which the next row stands
pub record Stand : Type 0 where
  pub page : ℕ
  pub reading : BatchReader

abbrev pub stand : ℕ → BatchReader → Stand
stand page r = record { page = page; reading = r }

-- the first row of a page stands behind its version
abbrev pub at_first : OpenPageView → BatchReader → BatchReader
at_first o r = record r { number = o.page.state.least; place = 1 }

-- the page in which the next row stands is read on from there, and another from its first row on
abbrev pub entered : OpenPageView → Stand → BatchReader
entered o s = if o.number == s.page then s.reading else at_first o s.reading

-- a page below that one, or one all of whose rows are recorded as acknowledged, or where the batch has as many rows as it may
abbrev pub is_passed : OpenPageView → Stand → Bool
is_passed o s = (nat_lt o.number s.page || is_spent o) || is_over s.reading

abbrev pub rows_of : Content → OpenPageView → BatchReader → Result BatchReader Damage
rows_of content o r = rows_read o.file o.page o.from (bytes_of (content o.file)) (end_of o - r.number) r

-- nothing is read of it then
unfoldable pub page_read : Content → OpenPageView → Stand → Result Stand Damage
page_read content o s = if is_passed o s then Ok s else and_then (rows_of content o (entered o s)) (λ r. Ok (stand o.number r))

-- ---- pages are read, one behind the other

abbrev pub pages_read : Content → List OpenPageView → Stand → Result Stand Damage
pages_read content [] s = Ok s
pages_read content (o ∷ pages) s = and_then (page_read content o s) (pages_read content pages)

-- all pages, in rising order
abbrev pub all_pages : QueueView → List OpenPageView
all_pages v = v.tails ++ v.top ∷ []

-- reading begins where the next unread row stands
abbrev pub begun : ℕ → CursorView → Stand
begun most c = stand c.page (record {
  most_rows = most;
  most_bytes = batch_bytes;
  number = c.number;
  place = c.place;
  bytes = None;
  rows = [];
  closed = false;
})

-- The next unread rows, at most so many, and where the row behind them stands; or the first damage of an element that is read for them. Where no row is
-- unread, nothing is read.
abbrev pub rows_taken : ℕ → Content → QueueView → Result Stand Damage
rows_taken most content v = if v.unread == 0 then Ok (begun most v.cursor) else pages_read content (all_pages v) (begun most v.cursor)

-- ---- what a call gives and leaves

abbrev pub number_of : QueueRow → ℕ
number_of row = row.number

abbrev pub event_of : QueueRow → Ev
event_of row = row.event

-- the numbers and the events of the rows that were read, if there are any
abbrev pub batch_from : BatchReader → Option QueueRow → Option Batch
batch_from r None = None
batch_from r (Some first) = Some (record { numbers = record { first = first.number; behind = r.number }; rows = map number_of r.rows; events = map event_of r.rows })

abbrev pub batch_of : BatchReader → Option Batch
batch_of r = batch_from r (slice_get r.rows 0)

-- there is room for the numbers and the events of the rows
pub record HasRoom (read : RowsRead) : Type 0 where
  pub numbers : length read.reading.rows ≤ vec_capacity read.numbers
  pub events : length read.reading.rows ≤ vec_capacity read.events
  pub no_numbers : read.numbers.items ≡ []
  pub no_events : read.events.items ≡ []

-- how many rows there are
abbrev pub rows_in : Option Batch → ℕ
rows_in None = 0
rows_in (Some batch) = length batch.rows

-- with what another cursor holds of the files
abbrev pub with_held : CursorView → QueueView → QueueView
with_held held v = record v { cursor = record v.cursor { block = held.block; kept = held.kept } }

-- the rows were given, and the next one stands behind them
abbrev pub behind_take : CursorView → Stand → QueueView → QueueView
behind_take held s v = record v { unread = v.unread - length s.reading.rows; cursor = record held { page = s.page; number = s.reading.number; place = s.reading.place } }

abbrev pub taken_of : CursorView → QueueView → Stand → Result (Option Batch × QueueView) Damage
taken_of held v s = Ok (batch_of s.reading, behind_take held s v)

-- the next rows, as many as a batch may have, and the queue behind them; or the first damage of an element that is read for them
abbrev pub GivesNextRows : ℕ → Content → QueueView → Result (Option Batch) QueueFault → QueueView → Type 0
GivesNextRows most content v result next = Finds (λ batch. (batch, next)) result (and_then (rows_taken most content v) (taken_of next.cursor v))

-- the same queue, but for what is given next
abbrev pub IsSameButNext : QueueView → QueueView → Type 0
IsSameButNext v next = next ≡ record v { unread = next.unread; cursor = next.cursor }

-- the same queue, which gives the same row next: another part of its page may be held, and fewer rows be kept
abbrev pub HasSameNext : QueueView → QueueView → Type 0
HasSameNext v next = next ≡ with_held next.cursor v

-- ---- what is held of the files

-- This page has this name, its file has as many bytes as it says, and if the next row stands in it, what was read last stands there.
pub record IsThere (names : ℕ → List ℕ) (content : Content) (page : ℕ) (block : PageBufferView) (o : OpenPageView) : Type 0 where
  pub file : o.file ≡ names o.number
  pub long : o.page.state.length ≤ file_length (content o.file)
  pub part : page ≡ o.number → IsPart (bytes_of (content o.file)) block

abbrev pub AreThere : (ℕ → List ℕ) → Content → ℕ → PageBufferView → List OpenPageView → Type 0
AreThere names content page block [] = ⊤
AreThere names content page block (o ∷ pages) = IsThere names content page block o × AreThere names content page block pages

-- the head page is as long as its file, in which the rows that are kept of it stand
pub record KeptIn (o : OpenPageView) (file : List ℕ) (kept : List KeptRow) : Type 0 where
  pub long : length file ≡ o.page.state.length
  pub are : AreKept o.number o.page.version file kept

-- what was read last is still this, of the page with this number, or stands in the file of the other
pub record WasRead (names : ℕ → List ℕ) (content : Content) (page : ℕ) (block : PageBufferView) (now : ℕ) (held : PageBufferView) : Type 0 where
  pub either : ((now ≡ page) × (held ≡ block)) ⊎ IsPart (bytes_of (content (names now))) held
