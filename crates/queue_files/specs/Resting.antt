-- What the files of a queue are between two calls, and what a stop may leave of each while a call changes it.
use Rattle.std.specs.Prelude.{◌≡◌, ◌≢◌, ◌⊎◌, ◌≤◌, ◌<◌, ◌^◌, ℕ, ◌+◌, ◌-◌, ⊤, List, [], ◌∷◌, ◌++◌, length, take, drop, Option, Some, None}
use Rattle.io_traits.specs.Reads.{bytes_of}
use Rattle.crc_frame.specs.Slots.{place_of, is_slot, next_turn, NewestIs}
use Rattle.crc_frame.specs.declared.slots.Slot.{Slot}
use Rattle.io_traits.specs.Images.{Image, FileImage, TornFile, at_rest}
use Rattle.io_traits.specs.Chance.{NoChance}
use Rattle.io_traits.specs.Tails.{passes, TailImage}
use Rattle.io_traits.specs.declared.pages.PageState.{PageState}
use Rattle.slot_files.specs.Checkpoints.{FitsSlot, slot_spelling, version_of, says}
use Rattle.queue_page.specs.Elements.{is_element}
use Rattle.queue_page.specs.Grammar.{IsPage, AreElements}
use Rattle.queue_files.specs.Folders.{head, page, checkpoint, Folder, Names}
use Rattle.queue_files.specs.Kept.{Page, Queue, first_open_of, state_as, state_at, NoTail}

-- ---- checkpoint files

-- the newest slot of a checkpoint file is of version 1 and of this turn, and says this
pub record Records (file : List ℕ) (turn : ℕ) (s : PageState) : Type 0 where
  pub fits : FitsSlot turn s
  pub slot : Slot
  pub bytes : List ℕ
  pub newest : NewestIs 48 file slot bytes
  pub turn_is : slot.turn ≡ turn
  pub version_is : version_of bytes ≡ 1
  pub says_is : says bytes ≡ s

-- a checkpoint file at rest, or in which the next slot is written, which says this; a stop may leave it torn, and no slot stands by chance
pub record MayRecord (slots : Option (List ℕ)) (turn : ℕ) (s : PageState) (f : FileImage) : Type 0 where
  pub rests_or_torn : (f ≡ at_rest slots) ⊎ TornFile (place_of 48 (next_turn turn)) (slot_spelling (next_turn turn) s) (at_rest slots) f
  pub no_chance : NoChance (passes (is_slot 48)) f

-- ---- pages below the head

-- The file of the page begins with its rows, and its checkpoint says where it was recorded. Nothing stands behind them, and the checkpoint has the
-- page's own number, where a queue wrote both; where others did, neither is read.
pub record TailHeld (p : Page) (slots file : Option (List ℕ)) : Type 0 where
  pub bytes : List ℕ
  pub rest : List ℕ
  pub stands : file ≡ Some (bytes ++ rest)
  pub is_page : IsPage bytes p.version p.least p.rows
  pub short : length bytes < 2 ^ 64
  pub named : ℕ
  pub low : named < 2 ^ 32 - 1
  pub records : Records (bytes_of slots) p.turn (state_as named p p.from p.rows (length bytes))

-- ---- the head page

-- The file of the head page is its rows: the first of them were recorded, and are settled.
pub record TopHeld (q : Queue) (slots file : Option (List ℕ)) : Type 0 where
  pub front : List ℕ
  pub tail : List ℕ
  pub stands : file ≡ Some (front ++ tail)
  pub marked : q.marked ≤ length q.top.rows
  pub is_page : IsPage front q.top.version q.top.least (take q.marked q.top.rows)
  pub behind : AreElements q.top.version (q.top.least + q.marked) (length front) (drop q.marked q.top.rows) tail
  pub short : length (front ++ tail) < 2 ^ 64
  pub records : Records (bytes_of slots) q.top.turn (state_at q.top q.top.from (take q.marked q.top.rows) (length front))

-- the recorded rows are settled, and those behind them may be; no element stands by chance
pub record MayHoldTail (front tail : List ℕ) (f : FileImage) : Type 0 where
  pub image : TailImage front tail f
  pub no_chance : NoChance (passes is_element) f

-- ---- the whole folder

abbrev pub TailsHeld : List Page → Folder → Type 0
TailsHeld [] folder = ⊤
TailsHeld (p ∷ tails) folder = TailHeld p (folder (checkpoint p.number)) (folder (page p.number)) × TailsHeld tails folder

-- What reads give of a queue between two calls. Of checkpoints without a page below the head nothing is said, and from 2^32 on no number has a file.
pub record Held (q : Queue) (folder : Folder) : Type 0 where
  pub tails : TailsHeld q.tails folder
  pub gone : (n : ℕ) → n < q.top.number → NoTail n q.tails → folder (page n) ≡ None
  pub top : TopHeld q (folder head) (folder (page q.top.number))
  pub no_pages : (n : ℕ) → q.top.number < n → n < 2 ^ 32 → folder (page n) ≡ None
  pub no_checkpoints : (n : ℕ) → q.top.number ≤ n → n < 2 ^ 32 → folder (checkpoint n) ≡ None

abbrev pub TailsRest : List Page → Names → Folder → Image → Type 0
TailsRest [] names folder i = ⊤
TailsRest (p ∷ tails) names folder i = (i (names (checkpoint p.number)) ≡ at_rest (folder (checkpoint p.number))) × TailsRest tails names folder i

-- Each file is at rest, but the rows of the head page behind the last mark, and checkpoints without a page.
pub record Rests (q : Queue) (names : Names) (folder : Folder) (held : Held q folder) (i : Image) : Type 0 where
  pub top_slot : i (names head) ≡ at_rest (folder head)
  pub tails : TailsRest q.tails names folder i
  pub pages : (n : ℕ) → n ≢ q.top.number → i (names (page n)) ≡ at_rest (folder (page n))
  pub top_page : TailImage held.top.front held.top.tail (i (names (page q.top.number)))

abbrev pub TailsMark : (tails : List Page) (names : Names) (folder : Folder) → TailsHeld tails folder → Image → Type 0
TailsMark [] names folder held i = ⊤
TailsMark (p ∷ tails) names folder held i =
    MayRecord (folder (checkpoint p.number)) p.turn (state_at p (first_open_of p) p.rows (length held.0.bytes)) (i (names (checkpoint p.number)))
    × TailsMark tails names folder held.1 i

-- While a mark is written all pages are at rest, and so is each checkpoint, or its next slot is being written, which records its page.
pub record Marks (q : Queue) (names : Names) (folder : Folder) (held : Held q folder) (i : Image) : Type 0 where
  pub tails : TailsMark q.tails names folder held.tails i
  pub head : MayRecord (folder head) q.top.turn (state_at q.top (first_open_of q.top) q.top.rows (length (held.top.front ++ held.top.tail))) (i (names head))
  pub pages : (n : ℕ) → n ≤ q.top.number → i (names (page n)) ≡ at_rest (folder (page n))
