-- What a folder holds: the rows of its pages, or its first damage, in the order in which an opening looks (this project's tables).
use Rattle.std.specs.Prelude.{ℕ, zero, suc, ◌+◌, ◌&&◌, not, nat_lt, Bool, true, false, List, [], ◌∷◌, ◌++◌, length, Option, Some, None, is_some, Result, Ok, Err, if◌then◌else◌}
use Rattle.io_traits.specs.Reads.{bytes_of}
use Rattle.event_tree.specs.Events.{Ev}
use Rattle.element_code.specs.declared.row.Origin.{Origin}
use Rattle.io_traits.specs.declared.pages.PageState.{PageState}
use Rattle.slot_files.specs.Checkpoints.{slots_of}
use Rattle.queue_page.specs.Elements.{and_then}
use Rattle.queue_page.specs.Pages.{PageRows, opened}
use Rattle.queue_page.specs.declared.row.PageRow.{PageRow}
use Rattle.queue_files.specs.Folders.{Role, head, page, checkpoint, Folder}
use Rattle.queue_files.specs.Checkpoints.{Mismatch, misfit, told}

-- ---- rows and damages

-- a row: its number, the input that it came by so far as its page names it, and its event
pub record Row : Type 0 where
  pub number : ℕ
  pub origin : Origin
  pub event : Ev

abbrev pub row_of : PageRow → Row
row_of r = record { number = r.number; origin = r.origin; event = r.event }

-- those of the rows of a page whose number isn't below this one
abbrev pub since : ℕ → List PageRow → List Row
since number [] = []
since number (r ∷ rows) = if nat_lt r.number number then since number rows else row_of r ∷ since number rows

-- the file that is damaged, and how
abbrev pub Damaged : Type 0
Damaged = Role × Mismatch

abbrev pub or_damage : {X M : Type 0} → Result X M → (M → Damaged) → Result X Damaged
or_damage (Ok x) damage = Ok x
or_damage (Err m) damage = Err (damage m)

abbrev pub told_at : Role → Option (List ℕ) → Result PageState Damaged
told_at role file = or_damage (told file) (λ m. (role, m))

-- the rows, the number that the next row will have, and that behind the rows of which the head page's checkpoint speaks
pub record Found : Type 0 where
  pub rows : List Row
  pub next : ℕ
  pub recorded : ℕ

-- ---- a new folder

-- none of so many numbers from one on has a file of this kind
unfoldable pub none_of : (ℕ → Role) → ℕ → ℕ → Folder → Bool
none_of kind zero from folder = true
none_of kind (suc count) from folder = not (is_some (folder (kind from))) && none_of kind count (suc from) folder

-- no page but page 0 stands, and no checkpoint of a page below a head
unfoldable pub has_page_0_at_most : Folder → Bool
has_page_0_at_most folder = none_of checkpoint 0x1_0000_0000 0 folder && none_of page 0xFFFF_FFFF 1 folder

-- no slot was ever whole, and nothing else stands there
unfoldable pub is_new : Folder → Bool
is_new folder = not (is_some (slots_of (bytes_of (folder head))).newest) && nat_lt (length (bytes_of (folder head))) 49 && has_page_0_at_most folder

-- ---- the pages that stand

-- a page that stands: its number, what its checkpoint says of it, and the bytes of its file
pub record Held : Type 0 where
  pub number : ℕ
  pub state : PageState
  pub bytes : List ℕ

abbrev pub held_by : ℕ → Option (List ℕ) → Option (List ℕ) → Result (List Held) Damaged → Result (List Held) Damaged
held_by number slots None rest = rest
held_by number slots (Some bytes) rest =
    and_then (told_at (checkpoint number) slots) (λ s. and_then rest (λ pages. Ok (record { number = number; state = s; bytes = bytes } ∷ pages)))

-- those of so many numbers from one on, each with its checkpoint; a page that is missing is passed over
abbrev pub held : ℕ → ℕ → Folder → Result (List Held) Damaged
held zero from folder = Ok []
held (suc count) from folder = held_by from (folder (checkpoint from)) (folder (page from)) (held count (suc from) folder)

-- the head page, which stands even where its file is missing
abbrev pub head_held : Folder → PageState → Held
head_held folder s = record { number = s.page; state = s; bytes = bytes_of (folder (page s.page)) }

-- the first page whose least number is below the end of the numbers before it
abbrev pub falling : ℕ → List Held → Option Damaged
falling end [] = None
falling end (p ∷ pages) = if nat_lt p.state.least end then Some (page p.number, misfit 0 p.state.least end) else falling (p.state.least + p.state.count) pages

-- ---- what they hold

abbrev pub unless : {X : Type 0} → Option Damaged → Result X Damaged → Result X Damaged
unless None found = found
unless (Some damage) found = Err damage

abbrev pub opened_page : Bool → Held → Result PageRows Damaged
opened_page is_head p = or_damage (opened is_head p.state p.bytes) (λ m. (page p.number, misfit m.place m.found m.expected))

abbrev pub top_found : Held → PageRows → Found
top_found p read = record { rows = since p.state.first_open read.rows; next = p.state.least + length read.rows; recorded = p.state.least + p.state.count }

abbrev pub with_page : Held → PageRows → Found → Found
with_page p read found = record found { rows = since p.state.first_open read.rows ++ found.rows }

-- Page by page: of each the rows in its recorded extent, of the head page also those behind it, from the first open number on.
abbrev pub read_all : List Held → Held → Result Found Damaged
read_all [] top = and_then (opened_page true top) (λ read. Ok (top_found top read))
read_all (p ∷ pages) top = and_then (opened_page false p) (λ read. and_then (read_all pages top) (λ found. Ok (with_page p read found)))

abbrev pub found_in : Held → List Held → Result Found Damaged
found_in top pages = unless (falling 0 (pages ++ top ∷ [])) (read_all pages top)

-- the folder whose head slot says this
abbrev pub of_head : Folder → PageState → Result Found Damaged
of_head folder s = and_then (held s.page 0 folder) (found_in (head_held folder s))

abbrev pub nothing_found : Found
nothing_found = record { rows = []; next = 1; recorded = 1 }

abbrev pub found : Folder → Result Found Damaged
found folder = if is_new folder then Ok nothing_found else and_then (told_at head (folder head)) (of_head folder)
