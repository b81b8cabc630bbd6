-- When a folder holds a queue that was written to it.
use Rattle.std.specs.Prelude.{◌≡◌, ◌≢◌, ◌⊎◌, ◌≤◌, ◌<◌, ◌^◌, ℕ, suc, ◌+◌, ◌-◌, Bool, true, if◌then◌else◌, ⊤, List, [], ◌∷◌, ◌++◌, length, take, Option, Some, None, Ok}
use Rattle.io_traits.specs.Reads.{bytes_of}
use Rattle.io_traits.specs.declared.pages.PageState.{PageState}
use Rattle.queue_page.specs.Grammar.{IsPage}
use Rattle.queue_page.specs.Pages.{PageRows, opened}
use Rattle.queue_page.specs.declared.row.PageRow.{PageRow}
use Rattle.queue_files.specs.Folders.{head, page, checkpoint, Folder}
use Rattle.queue_files.specs.Checkpoints.{told}
use Rattle.queue_files.specs.Found.{Row, since, Found, found}

-- A page of a queue: its number, its version, its least number and its rows; which of them are acknowledged; and the first number that wasn't
-- when that was last recorded, with the turn of the slot in which it was.
pub record Page : Type 0 where
  pub number : ℕ
  pub version : ℕ
  pub least : ℕ
  pub rows : List PageRow
  pub acknowledged : List Bool
  pub from : ℕ
  pub turn : ℕ

-- how many are acknowledged before the first that isn't
abbrev pub leading : List Bool → ℕ
leading [] = 0
leading (a ∷ acknowledged) = if a then suc (leading acknowledged) else 0

-- the first number that isn't acknowledged now, or that of the last row and 1
abbrev pub first_open_of : Page → ℕ
first_open_of p = p.least + leading p.acknowledged

-- A queue: its pages below the head in rising order, its head page, and how many rows of that were recorded last.
pub record Queue : Type 0 where
  pub tails : List Page
  pub top : Page
  pub marked : ℕ

-- ---- in terms of rows

-- of these pages, the head page being the last, the rows from the first number of each on that wasn't recorded as acknowledged
abbrev pub all_rows : List Page → Page → List Row
all_rows [] top = since top.from top.rows
all_rows (p ∷ tails) top = since p.from p.rows ++ all_rows tails top

-- these rows are those of a page from one of its two numbers on
abbrev pub IsSince : Page → List PageRow → List Row → Type 0
IsSince p rows found = (found ≡ since p.from rows) ⊎ (found ≡ since (first_open_of p) rows)

-- Of the head page's rows any first ones, but those that were recorded among them. The next number is behind these.
pub record TopKept (q : Queue) (rows : List Row) (next : ℕ) : Type 0 where
  pub count : ℕ
  pub recorded : q.marked ≤ count
  pub within : count ≤ length q.top.rows
  pub since : IsSince q.top (take count q.top.rows) rows
  pub next_is : next ≡ q.top.least + count

-- page by page
abbrev pub RowsKept : Queue → List Page → List Row → ℕ → Type 0
RowsKept q [] rows next = TopKept q rows next
RowsKept q (p ∷ tails) rows next = (front : List Row) × (rest : List Row) × (rows ≡ front ++ rest) × IsSince p p.rows front × RowsKept q tails rest next

-- Nothing in the folder is damaged, and it holds the rows of the queue that aren't acknowledged, or weren't when that was last recorded, page by
-- page; and of those behind the last record the first, be they none or all. Its checkpoint speaks at least of what was recorded.
pub record Kept (q : Queue) (folder : Folder) : Type 0 where
  pub held : Found
  pub is_found : found folder ≡ Ok held
  pub kept : RowsKept q q.tails held.rows held.next
  pub recorded : (q.top.least + q.marked ≤ held.recorded) × (held.recorded ≤ held.next)

-- ---- the same file by file

-- what a checkpoint says of a page with these rows and so many bytes, where it has this number for the page
abbrev pub state_as : ℕ → Page → ℕ → List PageRow → ℕ → PageState
state_as named p first_open rows len = record { page = named; first_open = first_open; least = p.least; count = length rows; length = len }

-- where it has the page's own number, as a queue writes it
abbrev pub state_at : Page → ℕ → List PageRow → ℕ → PageState
state_at p first_open rows len = state_as p.number p first_open rows len

-- by one of its two numbers
abbrev pub Tells : ℕ → Page → List PageRow → ℕ → Option (List ℕ) → Type 0
Tells named p rows len slots = (told slots ≡ Ok (state_as named p p.from rows len)) ⊎ (told slots ≡ Ok (state_as named p (first_open_of p) rows len))

-- A page below the head: its file begins with its rows, and its checkpoint speaks of all of them. What stands behind them, and the number that the
-- checkpoint has for the page, are nothing that is read.
pub record IsTail (p : Page) (slots file : Option (List ℕ)) : Type 0 where
  pub bytes : List ℕ
  pub rest : List ℕ
  pub stands : file ≡ Some (bytes ++ rest)
  pub is_page : IsPage bytes p.version p.least p.rows
  pub named : ℕ
  pub told : Tells named p p.rows (length bytes) slots

abbrev pub AreTails : List Page → Folder → Type 0
AreTails [] folder = ⊤
AreTails (p ∷ tails) folder = IsTail p (folder (checkpoint p.number)) (folder (page p.number)) × AreTails tails folder

-- The head page: its checkpoint speaks of its first rows, at least of those that were recorded, and opened it gives these and maybe some of
-- those behind them.
pub record IsTop (q : Queue) (slots file : Option (List ℕ)) : Type 0 where
  pub recorded : ℕ
  pub enough : q.marked ≤ recorded
  pub len : ℕ
  pub first_open : ℕ
  pub since : (first_open ≡ q.top.from) ⊎ (first_open ≡ first_open_of q.top)
  pub told : told slots ≡ Ok (state_at q.top first_open (take recorded q.top.rows) len)
  pub count : ℕ
  pub not_less : recorded ≤ count
  pub within : count ≤ length q.top.rows
  pub read : PageRows
  pub opens : opened true (state_at q.top first_open (take recorded q.top.rows) len) (bytes_of file) ≡ Ok read
  pub gives : read.rows ≡ take count q.top.rows

-- no page below the head has the number
abbrev pub NoTail : ℕ → List Page → Type 0
NoTail number [] = ⊤
NoTail number (p ∷ tails) = (number ≢ p.number) × NoTail number tails

-- Of files above the head page, and of checkpoints without a page, nothing is said.
pub record Stands (q : Queue) (folder : Folder) : Type 0 where
  pub tails : AreTails q.tails folder
  pub gone : (number : ℕ) → number < q.top.number → NoTail number q.tails → folder (page number) ≡ None
  pub top : IsTop q (folder head) (folder (page q.top.number))

-- ---- queues as they can be

-- rows with consecutive numbers, the first of which is this
abbrev pub AreNumbered : ℕ → List PageRow → Type 0
AreNumbered number [] = ⊤
AreNumbered number (r ∷ rows) = (r.number ≡ number) × AreNumbered (suc number) rows

-- a page that can be recorded: each of its rows is acknowledged or not, and none of them is recorded as acknowledged that isn't
pub record IsSound (p : Page) : Type 0 where
  pub number : p.number < 2 ^ 32 - 1
  pub turn : p.turn < 2 ^ 64
  pub least : 1 ≤ p.least
  pub numbers : p.least + length p.rows < 2 ^ 63
  pub count : length p.rows < 2 ^ 32
  pub numbered : AreNumbered p.least p.rows
  pub each : length p.acknowledged ≡ length p.rows
  pub from_fits : p.from < 2 ^ 64
  pub from : (p.from ≤ first_open_of p) ⊎ (p.least + length p.rows ≤ first_open_of p)

-- the pages have rising numbers, and so have their rows
abbrev pub Rising : ℕ → ℕ → List Page → Page → Type 0
Rising number end [] top = (number ≤ top.number) × (end ≤ top.least) × IsSound top
Rising number end (p ∷ tails) top =
    (number ≤ p.number) × (p.number < top.number) × (end ≤ p.least) × IsSound p × Rising (suc p.number) (p.least + length p.rows) tails top

abbrev pub IsQueue : Queue → Type 0
IsQueue q = Rising 0 0 q.tails q.top
