-- The folder that was opened holds a queue.
use Rattle.std.proofs.Common.{◌≡◌, ◌≢◌, ℕ, ◌+◌, ◌<◌, ◌≤◌, ◌^◌, true, List, [], ◌∷◌, ◌++◌, length, map, take, Option, Some, None, option_map, Result, Ok, refl, sym, ◌∙◌, ap, subst, arith}
use Rattle.std.proofs.Math.Path.{ap₂}
use Rattle.io_traits.specs.Reads.{bytes_of}
use Rattle.io_traits.specs.declared.pages.PageState.{PageState}
use Rattle.queue_page.specs.Blocks.{AreBytesIn}
use Rattle.queue_page.specs.Elements.{and_then}
use Rattle.queue_page.specs.Pages.{PageRows, opened, opened_view, run_behind, with_run, view_of}
use Rattle.queue_page.specs.Views.{PageView}
use Rattle.queue_page.proofs.ElementReads.{and_then_ok}
use Rattle.queue_page.proofs.PageReads.{Rows, as_rows}
use Rattle.queue_files.specs.Folders.{head, page, checkpoint, Folder}
use Rattle.queue_files.specs.Checkpoints.{misfit, told}
use Rattle.queue_files.specs.Found.{Damaged, Found, Row, Held as HeldPage, told_at, falling, unless, head_held, found_in, read_all}
use Rattle.queue_files.specs.Kept.{Page, Queue, IsSound, IsQueue, all_rows}
use Rattle.queue_files.specs.Resting.{Held}
use Rattle.queue_files.proofs.SameFiles.{same_held, tail_below}
use Rattle.queue_files.specs.Opening.{held_tail, held_at, held_of}
use Rattle.queue_files.specs.Reading.{AreStanding, IsScanned}
use Rattle.queue_files.specs.Queues.{page_of, HaveBytes, AreNewest, AreTold, IsNewest, ArePages, IsCut}
use Rattle.queue_files.specs.declared.scanned.Scanned.{Scanned}
use Rattle.queue_files.specs.declared.sealed_pages.SealedPage.{SealedPage}
use Rattle.queue_files.proofs.TornMarks.{number_of}
use Rattle.queue_files.proofs.QueuePages.{damage_ok, Built, build}
use Rattle.queue_files.proofs.QueueHead.{HeadParts, head_sound, head_held_so, head_parts, head_rows}

-- ---- which pages these are

-- the numbers are those of the tails, whose checkpoints tell so
pub record AreListed (m : Folder) (numbers : List ℕ) (tails : List SealedPage) : Type 0 where
  pub numbers_are : map (λ t. t.number) tails ≡ numbers
  pub tells : AreTold m tails

ok_held : {x y : List HeldPage} → ◌≡◌ {A = Result (List HeldPage) Damaged} (Ok x) (Ok y) → x ≡ y
ok_held is = cc

ok_page : {x y : HeldPage} → ◌≡◌ {A = Result HeldPage Damaged} (Ok x) (Ok y) → x ≡ y
ok_page is = cc

first_of : (x y : HeldPage) (xs ys : List HeldPage) → x ∷ xs ≡ y ∷ ys → x ≡ y
first_of x y xs ys is = cc

rest_of : (x y : HeldPage) (xs ys : List HeldPage) → x ∷ xs ≡ y ∷ ys → xs ≡ ys
rest_of x y xs ys is = cc

pub listed : (m : Folder) (numbers : List ℕ) (tails : List SealedPage) → held_of m numbers ≡ Ok (map (held_tail m) tails) → AreListed m numbers tails
listed m [] [] is = record { numbers_are = refl; tells = tt }
listed m [] (t ∷ tails) is = absurd (none_some (ok_held is))
  where
    none_some : [] ≡ held_tail m t ∷ map (held_tail m) tails → ⊥
    none_some same = cc
listed m (n ∷ numbers) [] is =
    let first = and_then_ok (held_at m n) (λ y. and_then (held_of m numbers) (λ ys. Ok (y ∷ ys))) [] is in
    let rest = and_then_ok (held_of m numbers) (λ ys. Ok (first.0 ∷ ys)) [] first.2 in
    absurd (some_none first.0 rest.0 (ok_held rest.2))
  where
    some_none : (x : HeldPage) (xs : List HeldPage) → x ∷ xs ≡ [] → ⊥
    some_none x xs same = cc
listed m (n ∷ numbers) (t ∷ tails) is =
    let all = map (held_tail m) (t ∷ tails) in
    let first = and_then_ok (held_at m n) (λ y. and_then (held_of m numbers) (λ ys. Ok (y ∷ ys))) all is in
    let rest = and_then_ok (held_of m numbers) (λ ys. Ok (first.0 ∷ ys)) all first.2 in
    let same = ok_held rest.2 in
    let here : first.0 ≡ held_tail m t = first_of first.0 (held_tail m t) rest.0 (map (held_tail m) tails) same in
    let behind = listed m numbers tails (rest.1 ∙ ap Ok (rest_of first.0 (held_tail m t) rest.0 (map (held_tail m) tails) same)) in
    let made = and_then_ok (told_at (checkpoint n) (m (checkpoint n))) (λ s. Ok (record { number = n; state = s; bytes = bytes_of (m (page n)) })) (held_tail m t) (first.1 ∙ ap Ok here) in
    let is_page = ok_page made.2 in
    let number_is : t.number ≡ n = sym (ap (λ (h : HeldPage). h.number) is_page) in
    let state_is : made.0 ≡ t.state = ap (λ (h : HeldPage). h.state) is_page in
    record {
      numbers_are = ap₂ (λ (k : ℕ) (ks : List ℕ). k ∷ ks) number_is behind.numbers_are;
      tells = (subst (λ (k : ℕ). told (m (checkpoint k)) ≡ Ok t.state) (sym number_is) (damage_ok (told (m (checkpoint n))) _ made.0 made.1 ∙ ap Ok state_is), behind.tells);
    }

-- ---- the queue

-- nothing falls, and the rows are these
unless_none : (o : Option Damaged) (r : Result Found Damaged) (rows : Found) → unless o r ≡ Ok rows → (o ≡ None) × (r ≡ Ok rows)
unless_none None r rows is = (refl, is)
unless_none (Some damage) r rows is = absurd cc

pub record Opens (b : Folder) (turn : ℕ) (s : PageState) (r : Scanned) (rows : Found) : Type 0 where
  pub queue : Queue
  pub is : IsQueue queue
  pub held : Held queue b
  pub tails : ArePages r.tails.items r.pages.items queue.tails
  pub read : PageRows
  pub top : queue.top ≡ page_of s.page turn s read
  pub top_is : r.top ≡ view_of s read
  pub marked : queue.marked ≡ s.count
  pub rows_are : rows ≡ record { rows = all_rows queue.tails queue.top; next = queue.top.least + length queue.top.rows; recorded = queue.top.least + queue.marked }

module _ (m b : Folder) (turn : ℕ) (s : PageState) (numbers : List ℕ) (r : Scanned) (scanned : IsScanned m s numbers r) (tells : told (m head) ≡ Ok s) (newest : IsNewest (bytes_of (m head)) turn s) (turns : AreNewest m r.tails.items)
    (stand : AreStanding 0 s.page m numbers) (tail_bytes : HaveBytes m r.tails.items) (top_bytes : AreBytesIn 0 r.top.state.length (bytes_of (m (page s.page))))
    (short : r.top.state.length < 2 ^ 64) (cut : IsCut s r m b)
    (no_pages : (n : ℕ) → s.page < n → n < 2 ^ 32 → m (page n) ≡ None) (no_checkpoints : (n : ℕ) → s.page ≤ n → n < 2 ^ 32 → m (checkpoint n) ≡ None) where
  abbrev file : List ℕ
  file = bytes_of (m (page s.page))

  rows_read : Rows s (opened true s file) r.top
  rows_read = as_rows s (opened true s file) r.top (damage_ok (opened_view true s file) (λ x. (page s.page, misfit x.place x.found x.expected)) r.top scanned.top)

  parts : HeadParts s file rows_read.rows
  parts = head_parts s file rows_read.rows rows_read.is

  abbrev read : PageRows
  read = with_run parts.r0 (run_behind s parts.r0.version file)

  opens : opened true s file ≡ Ok read
  opens = rows_read.is ∙ ap Ok parts.is

  view_is : r.top ≡ view_of s read
  view_is = sym rows_read.seen ∙ ap (view_of s) parts.is

  count_is : r.top.state.count ≡ length read.rows
  count_is = ap (λ (v : PageView). v.state.count) view_is

  least_is : r.top.state.least ≡ s.least
  least_is = ap (λ (v : PageView). v.state.least) view_is

  length_is : r.top.state.length ≡ read.length
  length_is = ap (λ (v : PageView). v.state.length) view_is

  read_bytes : AreBytesIn 0 read.length file
  read_bytes = subst (λ (n : ℕ). AreBytesIn 0 n file) length_is top_bytes

  abbrev top : Page
  top = page_of s.page turn s read

  head_same : b head ≡ m head
  head_same = cut.others head (λ is. absurd cc)

  sound : IsSound top
  sound = head_sound m b turn s parts.r0 parts.reads read_bytes head_same newest tells

  listed_are : AreListed m numbers r.tails.items
  listed_are = listed m numbers r.tails.items scanned.tails

  both : (falling 0 (map (held_tail m) r.tails.items ++ head_held m s ∷ []) ≡ None) × (read_all (map (held_tail m) r.tails.items) (head_held m s) ≡ Ok scanned.rows)
  both = unless_none (falling 0 (map (held_tail m) r.tails.items ++ head_held m s ∷ [])) (read_all (map (held_tail m) r.tails.items) (head_held m s)) scanned.rows
      (sym (ap (λ x. and_then x (found_in (head_held m s))) scanned.tails) ∙ scanned.is_found)

  built : Built m 0 0 s.page r.tails.items r.pages.items top scanned.rows
  built = build m (head_held m s) top sound.number sound refl (λ found is. ap (λ (f : Found). f.rows) (head_rows m s read opens found is)) 0 0 r.tails.items r.pages.items scanned.rows scanned.pages (omega arith)
      both.1 both.0 (subst (AreStanding 0 s.page m) (sym listed_are.numbers_are) stand) tail_bytes turns listed_are.tells

  abbrev q : Queue
  q = record { tails = built.pages; top = top; marked = s.count }

  is_queue : IsQueue q
  is_queue = built.rising

  other_page : (n : ℕ) → n ≢ s.page → b (page n) ≡ m (page n)
  other_page n other = cut.others (page n) (λ is. other (ap number_of is))

  slots_same : (n : ℕ) → b (checkpoint n) ≡ m (checkpoint n)
  slots_same n = cut.others (checkpoint n) (λ is. absurd cc)

  held : Held q b
  held = record {
    tails = same_held q.tails m b (λ n tail. let less = tail_below n q is_queue tail in (slots_same n, other_page n (λ is. omega (arith, less, is)))) built.held;
    gone = λ n less none. other_page n (λ is. omega (arith, less, is)) ∙ built.gone n (omega arith) less none;
    top = head_held_so m b turn s parts.r0 parts.reads read_bytes head_same newest tells q refl refl
        (subst (λ (k : ℕ). b (page s.page) ≡ option_map (take k) (m (page s.page))) length_is cut.top) (omega (arith, short, length_is));
    no_pages = λ n above fits. other_page n (λ is. omega (arith, above, is)) ∙ no_pages n above fits;
    no_checkpoints = λ n from fits. slots_same n ∙ no_checkpoints n from fits;
  }

  pub opens_queue : Opens b turn s r scanned.rows
  opens_queue = record {
    queue = q;
    is = is_queue;
    held = held;
    tails = built.are;
    read = read;
    top = refl;
    top_is = view_is;
    marked = refl;
    rows_are =
        ap₂ (λ (l : List Row) (n : ℕ). record { rows = l; next = n; recorded = scanned.rows.recorded }) built.rows (omega (arith, scanned.next, least_is, count_is))
        ∙ ap (λ (n : ℕ). record { rows = all_rows q.tails q.top; next = q.top.least + length q.top.rows; recorded = n }) scanned.recorded;
  }
