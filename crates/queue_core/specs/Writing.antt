-- What a write makes of a queue that is open, and what it answers.
use Rattle.std.specs.Prelude.{◌≡◌, ◌⊎◌, ◌≤◌, ◌<◌, ◌^◌, ℕ, suc, ◌+◌, ◌-◌, ◌==◌, ◌&&◌, ◌||◌, nat_lt, not, min, Bool, false, List, [], ◌∷◌, ◌++◌, length, map, Some, IsTrue, if◌then◌else◌}
use Rattle.crc_frame.specs.Slots.{next_turn}
use Rattle.io_traits.specs.Reads.{bytes_of}
use Rattle.io_traits.specs.Moments.{EachMoment, ReadsBeside}
use Rattle.io_traits.specs.declared.stores.Store.{Ghosts as StoreWords}
use Rattle.io_traits.specs.declared.pages.PageState.{PageState}
use Rattle.queue_page.specs.Grammar.{IsElement, row_framed}
use Rattle.queue_page.specs.Pages.{with_element}
use Rattle.event_tree.specs.Events.{Ev, event_size}
use Rattle.queue_files.specs.Folders.{head, page, checkpoint, folder_in, names_in}
use Rattle.queue_files.specs.Kept.{Queue, Kept}
use Rattle.queue_files.specs.Steps.{marked, rolled, with_row}
use Rattle.queue_files.specs.Marks.{NoChances}
use Rattle.queue_files.specs.Ready.{RowReady}
use Rattle.queue_files.specs.Writes.{NoneShorter}
use Rattle.queue_files.specs.declared.marking.Mark.{Mark}
use Rattle.queue_files.specs.declared.rolling.NextPage.{NextPage}
use Rattle.queue_core.specs.Calls.{behind_mark, bytes_in, checkpoints, end_of, first_open, marks_of, state_of, with_recorded}
use Rattle.queue_core.specs.Opens.{Becomes, IsReady, Opens}
use Rattle.queue_core.specs.Views.{OpenPageView, QueueView}

-- ---- what is known before anything is written

-- how many bytes the element of a row has
abbrev pub frame_size : List ℕ → Ev → ℕ
frame_size origin event = 20 + length origin + event_size event

-- So many bytes more have no room in a page: a file has fewer than 2^64, and a page has no more than it may, unless it has a single row.
unfoldable pub has_no_room : ℕ → ℕ → OpenPageView → Bool
has_no_room capacity size o = nat_lt (2 ^ 64 - 1) (o.page.state.length + size) || (not (o.page.state.count == 0) && nat_lt capacity (o.page.state.length + size))

-- A page takes no row more: it is of version 1, it has 2^32 - 1 rows, or its checkpoint says that rows which it doesn't have yet are acknowledged.
unfoldable pub is_closed : OpenPageView → Bool
is_closed o = not (o.page.version == 2) || (o.page.state.count == 2 ^ 32 - 1) || nat_lt (end_of o) o.from

-- a row of so many bytes needs a new page
abbrev pub needs_page : ℕ → QueueView → Bool
needs_page size v = is_closed v.top || has_no_room v.limits.page_capacity size v.top

-- there is no number for the row, or none for the page that it needs
unfoldable pub is_spent_with : Bool → OpenPageView → Bool
is_spent_with needed top = (end_of top == 2 ^ 63 - 1) || (needed && not (nat_lt (suc top.number) (2 ^ 32 - 1)))

abbrev pub numbers_spent : ℕ → QueueView → Bool
numbers_spent size v = is_spent_with (needs_page size v) v.top

-- a row of a page isn't acknowledged
abbrev pub is_open : OpenPageView → Bool
is_open o = nat_lt (first_open o) (end_of o)

abbrev pub some_open : List OpenPageView → Bool
some_open [] = false
some_open (o ∷ tails) = is_open o || some_open tails

abbrev pub has_open : QueueView → Bool
has_open v = is_open v.top || some_open v.tails

-- how many bytes all pages have with a row of so many, and with the first byte of a page if it needs one
abbrev pub bytes_with : Bool → ℕ → QueueView → ℕ
bytes_with needed size v = bytes_in v + size + (if needed then 1 else 0)

-- a row isn't acknowledged, and with so many bytes more the pages would have more than they may
unfoldable pub is_full_with : Bool → ℕ → QueueView → Bool
is_full_with needed size v = nat_lt v.limits.max_bytes (bytes_with needed size v) && has_open v

abbrev pub is_full : ℕ → QueueView → Bool
is_full size v = is_full_with (needs_page size v) size v

-- ---- a row in the head page

-- a page with a row more, of so many bytes, which isn't acknowledged
abbrev pub with_open_row : ℕ → OpenPageView → OpenPageView
with_open_row size o = record o { page = with_element o.page size; acknowledged = o.acknowledged ++ false ∷ [] }

-- the row isn't given yet; where it is the first of these, it stands where the next one is wanted
abbrev pub behind_append : ℕ → QueueView → QueueView
behind_append size v = record v { top = with_open_row size v.top; unread = min (v.unread + 1) (2 ^ 64 - 1) }

-- ---- a new head page

-- how the page behind another stands when it is begun
abbrev pub next_state : OpenPageView → PageState
next_state o = record { page = suc o.number; first_open = end_of o; least = end_of o; count = 0; length = 1 }

-- the page behind the head page, which has version 2 and no rows
abbrev pub next_top : List ℕ → OpenPageView → OpenPageView
next_top folder o = record {
  number = suc o.number;
  file = names_in folder (page (suc o.number));
  page = record { version = 2; state = next_state o };
  acknowledged = [];
  from = end_of o;
  turn = next_turn o.turn;
}

-- the head page when it is one below the head
abbrev pub sealed : OpenPageView → OpenPageView
sealed o = record o { turn = 0 }

abbrev pub behind_roll : QueueView → QueueView
behind_roll v = record v { tails = v.tails ++ sealed v.top ∷ []; top = next_top v.folder v.top }

-- what is to be written for the page behind a head page of which all is recorded
abbrev pub next_page : List ℕ → OpenPageView → NextPage
next_page folder o = record {
  checkpoint = names_in folder (checkpoint o.number);
  sealed = state_of o;
  file = names_in folder (page (suc o.number));
  head = names_in folder head;
  turn = next_turn o.turn;
  state = next_state o;
}

-- ---- a write

abbrev pub made_ready : Bool → QueueView → QueueView
made_ready needed v = if needed then behind_roll (behind_mark v) else v

abbrev pub behind_write : ℕ → QueueView → QueueView
behind_write size v = behind_append size (made_ready (needs_page size v) v)

-- what it makes of the queue: its row joins the head page, or a new one behind a mark
abbrev pub row_here : QueueView → List ℕ → Ev → Queue → Queue
row_here v origin event q = with_row (row_framed (end_of v.top) origin event v.top.page.state.length) q

abbrev pub row_behind : QueueView → List ℕ → Ev → Queue → Queue
row_behind v origin event q = with_row (row_framed (end_of v.top) origin event 1) (rolled (marked q))

abbrev pub written : Bool → QueueView → List ℕ → Ev → Queue → Queue
written needed v origin event q = if needed then row_behind v origin event q else row_here v origin event q

abbrev pub with_written : QueueView → List ℕ → Ev → Queue → Queue
with_written v origin event q = written (needs_page (frame_size origin event) v) v origin event q

-- ---- what its parts know

-- these bytes are the element of a row of this number, wherever it stands in a page of version 2
pub record IsFrame (number : ℕ) (origin : List ℕ) (event : Ev) (frame : List ℕ) : Type 0 where
  pub size : length frame ≡ frame_size origin event
  pub element : (place : ℕ) → IsElement 2 place (row_framed number origin event place) frame

pub record HasFrame (number : ℕ) (frame : List ℕ) : Type 0 where
  pub origin : List ℕ
  pub event : Ev
  pub is : IsFrame number origin event frame

-- a page takes rows, so far as they have room, and one of so many bytes
pub record IsOpenTo (o : OpenPageView) : Type 0 where
  pub version : o.page.version ≡ 2
  pub few : o.page.state.count < 2 ^ 32 - 1
  pub recorded : o.from ≤ end_of o

pub record TakesRow (size : ℕ) (o : OpenPageView) : Type 0 where
  pub version : o.page.version ≡ 2
  pub few : o.page.state.count < 2 ^ 32 - 1
  pub recorded : o.from ≤ end_of o
  pub short : o.page.state.length + size < 2 ^ 64

-- these marks record all of a queue, and this is to be written for the page behind its head page
pub record IsPlan (v : QueueView) (marks : List Mark) (next : NextPage) : Type 0 where
  pub given : List Mark
  pub named : map (λ m. m.file) given ≡ checkpoints v
  pub marks_are : marks ≡ marks_of v.tails v.top given
  pub next_is : next ≡ next_page v.folder (with_recorded v.top)
  pub number : suc v.top.number < 2 ^ 32 - 1
  pub fits : end_of v.top < 2 ^ 63 - 1

module _ {S : Type 0} (store : StoreWords S) where
  -- whatever a stop at any moment of a write leaves holds the queue from before it, or the one that it makes of it, of which the row may be missing
  abbrev pub KeepsEither : (Queue → Queue) → QueueView → S → S → Type 0
  KeepsEither step v old new =
      (q : Queue) → Opens store v q old
      → EachMoment store old new (λ i. NoChances (names_in v.folder) i → Kept q (folder_in (names_in v.folder) i) ⊎ Kept (step q) (folder_in (names_in v.folder) i))

  -- the same of a row that joins a page, or a new one, by its element
  abbrev pub KeepsRow : (QueueView → List ℕ → Ev → Queue → Queue) → QueueView → List ℕ → S → S → Type 0
  KeepsRow step v frame old new = (origin : List ℕ) (event : Ev) → IsFrame (end_of v.top) origin event frame → KeepsEither (step v origin event) v old new

  abbrev pub AddsRow : (QueueView → List ℕ → Ev → Queue → Queue) → QueueView → QueueView → List ℕ → S → S → Type 0
  AddsRow step v grown frame old new = (origin : List ℕ) (event : Ev) → IsFrame (end_of v.top) origin event frame → Becomes store (step v origin event) v grown old new

  -- a new head page with a row, by its plan
  pub record IsBegin (v : QueueView) (marks : List Mark) (next : NextPage) (frame : List ℕ) (s : S) : Type 0 where
    pub plan : IsPlan v marks next
    pub ready : IsReady store v s
    pub framed : HasFrame (end_of v.top) frame

  abbrev pub BeginKeeps : List Mark → NextPage → List ℕ → S → S → Type 0
  BeginKeeps marks next frame old new = (v : QueueView) → IsPlan v marks next → IsReady store v old → KeepsRow row_behind v frame old new

  pub record Begun (v : QueueView) (frame : List ℕ) (old new : S) : Type 0 where
    pub ready : IsReady store (behind_append (length frame) (behind_roll (behind_mark v))) new
    pub adds : AddsRow row_behind v (behind_append (length frame) (behind_roll (behind_mark v))) frame old new

  abbrev pub BeginAdds : List Mark → NextPage → List ℕ → S → S → Type 0
  BeginAdds marks next frame old new = (v : QueueView) → IsPlan v marks next → IsReady store v old → Begun v frame old new

  -- the element of a row stands behind the others of a page, whose file has this name
  pub record RowAdded (name frame : List ℕ) (old new : S) : Type 0 where
    pub ready : RowReady store name frame old new
    pub longer : IsTrue store.tells → NoneShorter (store.seen old) (store.seen new)
    pub written : IsTrue store.tells → store.seen new name ≡ Some (bytes_of (store.seen old name) ++ frame)
    pub beside : ReadsBeside store (λ n. n ≡ name) old new
