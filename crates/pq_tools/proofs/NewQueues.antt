-- A queue of which nothing is acknowledged, with one row more, and as it is found.
use Rattle.std.proofs.Common.{◌≡◌, ◌≤◌, ⊎_elim, ℕ, suc, ◌+◌, nat_lt, Bool, true, false, IsTrue, List, [], ◌∷◌, ◌++◌, length, take, if◌then◌else◌, refl, sym, ◌∙◌, ap, subst, arith, append_assoc, append-nil, length-append}
use Rattle.std.proofs.Math.Path.{ap₂}
use Rattle.std.proofs.lemmas.Bool.{cond-false}
use Rattle.std.proofs.lemmas.Bool.Decides.{nat_tests}
use Rattle.std.proofs.lemmas.List.{take_all}
use Rattle.element_code.specs.declared.row.Origin.TheVariants.{Id}
use Rattle.io_traits.specs.declared.stores.Store.{Ghosts as StoreWords}
use Rattle.queue_page.specs.Grammar.{row_framed}
use Rattle.queue_page.specs.declared.row.PageRow.{PageRow}
use Rattle.queue_files.specs.Folders.{Folder, names_in}
use Rattle.queue_files.specs.Found.{Row, found, row_of, since}
use Rattle.queue_files.specs.Kept.{IsSince, Kept, Page, Queue, RowsKept, all_rows, first_open_of, leading}
use Rattle.queue_files.specs.Resting.{Held}
use Rattle.queue_files.specs.Steps.{marked, marked_page, marked_pages, next_top, page_with, recorded_page, rolled, sealed, with_row}
use Rattle.queue_files.proofs.Kept.{standing_is_kept}
use Rattle.queue_files.proofs.SameFiles.{held_stands}
use Rattle.queue_files.specs.Marks.{read_in}
use Rattle.queue_core.specs.Calls.{end_of, last_number}
use Rattle.queue_core.specs.Opens.{Becomes}
use Rattle.queue_core.specs.Views.{QueueView}
use Rattle.queue_core.specs.Writing.{needs_page, frame_size, written}
use Rattle.pq_tools.specs.Repairs.{AllFresh, HasRows, Holds, IsFresh, IsNewQueue}
use Rattle.pq_tools.specs.Salvage.{named, renumbered}

-- ---- rows that come last

since_end : (from : ℕ) (rows : List PageRow) (row : PageRow) → from ≤ row.number → since from (rows ++ row ∷ []) ≡ since from rows ++ row_of row ∷ []
since_end from [] row late = let is : nat_lt row.number from ≡ false = grind (arith, nat_tests, late) in cond-false (nat_lt row.number from) [] (row_of row ∷ []) is
since_end from (r ∷ rows) row late = by (nat_lt r.number from) (since_end from rows row late)
  where
    by : (b : Bool) → since from (rows ++ row ∷ []) ≡ since from rows ++ row_of row ∷ []
        → (if b then since from (rows ++ row ∷ []) else row_of r ∷ since from (rows ++ row ∷ [])) ≡ (if b then since from rows else row_of r ∷ since from rows) ++ row_of row ∷ []
    by true rest = rest
    by false rest = ap (λ l. row_of r ∷ l) rest

rows_end : (tails : List Page) (top : Page) (row : PageRow) → top.from ≤ row.number → all_rows tails (page_with row top) ≡ all_rows tails top ++ row_of row ∷ []
rows_end [] top row late = since_end top.from top.rows row late
rows_end (p ∷ tails) top row late = ap (λ l. since p.from p.rows ++ l) (rows_end tails top row late) ∙ sym (append_assoc (since p.from p.rows) (all_rows tails top) (row_of row ∷ []))

abbrev renumbered_row : ℕ → Row → Row
renumbered_row number r = record { number = number; origin = Id (named r.origin); event = r.event }

renumbered_end : (n : ℕ) (rows : List Row) (r : Row) → renumbered n (rows ++ r ∷ []) ≡ renumbered n rows ++ renumbered_row (n + length rows) r ∷ []
renumbered_end n [] r = let same : n ≡ n + 0 = omega arith in ap (λ k. renumbered_row k r ∷ []) same
renumbered_end n (x ∷ rows) r =
    let same : suc n + length rows ≡ n + suc (length rows) = omega arith in
    ap (λ l. renumbered_row n x ∷ l) (renumbered_end (suc n) rows r ∙ ap (λ k. renumbered (suc n) rows ++ renumbered_row k r ∷ []) same)

pub renumbered_long : (n : ℕ) (rows : List Row) → length (renumbered n rows) ≡ length rows
renumbered_long n [] = refl
renumbered_long n (r ∷ rows) = ap suc (renumbered_long (suc n) rows)

-- ---- pages of which nothing is acknowledged

open_first : (p : Page) → IsFresh p → first_open_of p ≡ p.from
open_first p fresh = omega (arith, fresh.from, fresh.none)

marked_fresh : (p : Page) → IsFresh p → IsFresh (marked_page p)
marked_fresh p fresh = record { from = omega (arith, fresh.none); none = fresh.none }

recorded_fresh : (p : Page) → IsFresh p → IsFresh (recorded_page p)
recorded_fresh p fresh = record { from = omega (arith, fresh.none); none = fresh.none }

all_marked : (tails : List Page) → AllFresh tails → AllFresh (marked_pages tails)
all_marked [] fresh = tt
all_marked (p ∷ tails) fresh = (marked_fresh p fresh.0, all_marked tails fresh.1)

all_with : (tails : List Page) (p : Page) → AllFresh tails → IsFresh p → AllFresh (tails ++ p ∷ [])
all_with [] p fresh is = (is, tt)
all_with (x ∷ tails) p fresh is = (fresh.0, all_with tails p fresh.1 is)

leading_end : (acknowledged : List Bool) → leading acknowledged ≡ 0 → leading (acknowledged ++ false ∷ []) ≡ 0
leading_end [] none = refl
leading_end (true ∷ acknowledged) none = absurd (omega (arith, none))
leading_end (false ∷ acknowledged) none = refl

-- a mark changes no row
marked_rows : (tails : List Page) (top : Page) → AllFresh tails → IsFresh top → all_rows (marked_pages tails) (recorded_page top) ≡ all_rows tails top
marked_rows [] top fresh is = ap (λ n. since n top.rows) (open_first top is)
marked_rows (p ∷ tails) top fresh is = ap₂ (λ (n : ℕ) (l : List Row). since n p.rows ++ l) (open_first p fresh.0) (marked_rows tails top fresh.1 is)

-- nor does a new page
rolled_rows : (tails : List Page) (top next : Page) → next.rows ≡ [] → all_rows (tails ++ sealed top ∷ []) next ≡ all_rows tails top
rolled_rows [] top next none = ap (λ l. since top.from top.rows ++ since next.from l) none ∙ append-nil (since top.from top.rows)
rolled_rows (p ∷ tails) top next none = ap (λ l. since p.from p.rows ++ l) (rolled_rows tails top next none)

-- ---- one row more

-- with a row that has the next number
with_last : (q : Queue) (rows : List Row) (r : Row) (row : PageRow) → IsNewQueue q rows → row.number ≡ suc (length rows) → row.origin ≡ Id (named r.origin) → row.event ≡ r.event → IsNewQueue (with_row row q) (rows ++ r ∷ [])
with_last q rows r row is number origin event =
    let late : q.top.from ≤ row.number = omega (arith, is.next, is.top.from, number) in
    let numbered : row.number ≡ 1 + length rows = omega (arith, number) in
    let same : row_of row ≡ renumbered_row (1 + length rows) r = λ i. record { number = numbered i; origin = origin i; event = event i } in
    record {
      rows_are = rows_end q.tails q.top row late ∙ ap₂ (λ (l : List Row) (x : Row). l ++ x ∷ []) is.rows_are same ∙ sym (renumbered_end 1 rows r);
      tails = is.tails;
      top = record { from = is.top.from; none = leading_end q.top.acknowledged is.top.none };
      next = omega (arith, length-append q.top.rows (row ∷ []), length-append rows (r ∷ []), is.next);
    }

-- with a new page
with_page : (q : Queue) (rows : List Row) → IsNewQueue q rows → IsNewQueue (rolled (marked q)) rows
with_page q rows is = record {
  rows_are = rolled_rows (marked_pages q.tails) (recorded_page q.top) (next_top (recorded_page q.top)) refl ∙ marked_rows q.tails q.top is.tails is.top ∙ is.rows_are;
  tails = all_with (marked_pages q.tails) (sealed (recorded_page q.top)) (all_marked q.tails is.tails) (record { from = (recorded_fresh q.top is.top).from; none = is.top.none });
  top = record { from = refl; none = refl };
  next = omega (arith, is.next);
}

module _ {S : Type 0} (store : StoreWords S) where
  module _ (v : QueueView) (rows : List Row) (r : Row) (old : S) (h : Holds store v rows old) where
    number_is : end_of v.top ≡ suc (length rows)
    number_is = omega (arith, h.opens.top.least, h.opens.top.count, h.is.next)

    is_with : (needed : Bool) → IsNewQueue (written needed v (named r.origin) r.event h.queue) (rows ++ r ∷ [])
    is_with true = with_last (rolled (marked h.queue)) rows r (row_framed (end_of v.top) (named r.origin) r.event 1) (with_page h.queue rows h.is) number_is refl refl
    is_with false = with_last h.queue rows r (row_framed (end_of v.top) (named r.origin) r.event v.top.page.state.length) h.is number_is refl refl

    pub holds_written : (w : QueueView) (new : S) → Becomes store (written (needs_page (frame_size (named r.origin) r.event) v) v (named r.origin) r.event) v w old new → Holds store w (rows ++ r ∷ []) new
    holds_written w new becomes = record { queue = written (needs_page (frame_size (named r.origin) r.event) v) v (named r.origin) r.event h.queue; opens = becomes h.queue h.opens; is = is_with (needs_page (frame_size (named r.origin) r.event) v) }

-- ---- as it is found

found_since : (p : Page) (rows : List PageRow) (found : List Row) → IsFresh p → IsSince p rows found → found ≡ since p.from rows
found_since p rows found fresh is = ⊎_elim (λ same. same) (λ same. same ∙ ap (λ n. since n rows) (open_first p fresh)) is

found_all : (q : Queue) (tails : List Page) (found : List Row) (next : ℕ) → q.marked ≡ length q.top.rows → IsFresh q.top → AllFresh tails → RowsKept q tails found next → found ≡ all_rows tails q.top
found_all q [] found next all top fresh kept =
    found_since q.top (take kept.count q.top.rows) found top kept.since ∙ ap (since q.top.from) (take_all kept.count q.top.rows (omega (arith, all, kept.recorded)))
found_all q (p ∷ tails) found next all top fresh (front, rest, whole, is, behind) =
    whole ∙ ap₂ (λ (a b : List Row). a ++ b) (found_since p p.rows front fresh.0 is) (found_all q tails rest next all top fresh.1 behind)

-- once all of it is recorded
pub found_marked : (q : Queue) (rows : List Row) (f : Folder) → IsNewQueue q rows → (kept : Kept (marked q) f) → kept.held.rows ≡ renumbered 1 rows
found_marked q rows f is kept =
    found_all (marked q) (marked_pages q.tails) kept.held.rows kept.held.next refl (recorded_fresh q.top is.top) (all_marked q.tails is.tails) kept.kept
    ∙ marked_rows q.tails q.top is.tails is.top ∙ is.rows_are

module _ {S : Type 0} (store : StoreWords S) where
  -- once a queue is settled, its folder holds its rows
  pub settled : (v w : QueueView) (rows : List Row) (old new : S) (count : ℕ) → IsTrue store.tells → Holds store v rows old → Becomes store marked v w old new → w.folder ≡ v.folder → count ≡ last_number v
      → HasRows (read_in (names_in v.folder) (store.seen new)) rows count
  settled v w rows old new count told h becomes folder number =
      let f = read_in (names_in v.folder) (store.seen new) in
      let opens = becomes h.queue h.opens in
      let held : Held (marked h.queue) f = subst (λ (name : List ℕ). Held (marked h.queue) (read_in (names_in name) (store.seen new))) folder (opens.ready.held told) in
      let kept = standing_is_kept (marked h.queue) f opens.ready.is (held_stands (marked h.queue) f opens.ready.is held) in
      let rows_are = found_marked h.queue rows f h.is kept in
      record {
        held = kept.held;
        is_found = kept.is_found;
        rows_are = rows_are;
        many = omega (arith, number, h.opens.top.least, h.opens.top.count, h.is.next, ap length rows_are, renumbered_long 1 rows);
      }
