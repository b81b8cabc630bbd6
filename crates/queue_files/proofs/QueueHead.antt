-- The head page that was read is the head page of a queue.
use Rattle.std.proofs.Common.{◌≡◌, ℕ, suc, ◌+◌, ◌-◌, ◌<◌, ◌≤◌, ◌^◌, true, List, [], ◌∷◌, ◌++◌, length, take, drop, Option, Some, None, option_map, Result, Ok, refl, sym, ◌∙◌, ap, subst, arith, length-append, length-take, take-append-drop}
use Rattle.std.proofs.Math.Seq.{take-add, drop-append_seam}
use Rattle.std.proofs.lemmas.List.{take_at, nil_from_length}
use Rattle.io_traits.specs.Reads.{bytes_of}
use Rattle.io_traits.specs.declared.pages.PageState.{PageState}
use Rattle.queue_page.specs.Blocks.{AreBytesIn}
use Rattle.queue_page.specs.Grammar.{AreElements, IsPage}
use Rattle.queue_page.specs.Pages.{PageRows, recorded, opened, extended, room_of, run_behind, with_run}
use Rattle.queue_page.specs.Runs.{Run, run, behind}
use Rattle.queue_page.specs.declared.row.PageRow.{PageRow}
use Rattle.queue_page.proofs.ElementReads.{and_then_ok}
use Rattle.queue_page.proofs.FileBytes.{front_bytes, part_bytes}
use Rattle.queue_page.proofs.PageReads.{recorded_took}
use Rattle.queue_page.proofs.RunLemmas.{run_took, none_there}
use Rattle.queue_page.proofs.Spelling.{IsRunOf, is_run, pages_are_spelled, runs_are_longest}
use Rattle.queue_files.specs.Folders.{head, page, Folder}
use Rattle.queue_files.specs.Checkpoints.{told}
use Rattle.queue_files.specs.Found.{Damaged, Found, head_held, opened_page, top_found, read_all}
use Rattle.queue_files.specs.Kept.{Page, Queue, state_at, AreNumbered, IsSound}
use Rattle.queue_files.specs.Resting.{Records, TopHeld}
use Rattle.queue_files.proofs.Recording.{read_is_recorded}
use Rattle.queue_files.specs.Queues.{page_of, IsNewest}
use Rattle.queue_files.proofs.QueuePages.{are_numbered, below_each, below_open, InBounds, in_bounds, told_bounded, damage_ok}

-- a run ends behind its elements
run_ends : (limit version number place : ℕ) (bytes : List ℕ) (size : ℕ) → size ≤ length bytes → AreElements version number place (run limit version number place bytes).rows (take size bytes)
    → (run limit version number place bytes).end ≡ place + size
run_ends limit version number place bytes size within are =
    let r = run limit version number place bytes in
    let front = take size bytes in
    let rest = drop size bytes in
    let few = (run_took limit version number place bytes).few in
    let r2 = run (limit - length r.rows) version (number + length r.rows) (place + length front) rest in
    let same : r ≡ behind r.rows r2 = ap (run limit version number place) (sym (take-append-drop size bytes)) ∙ runs_are_longest limit version number place r.rows front rest are few in
    let long : length r.rows ≡ length r.rows + length r2.rows = ap (λ (x : Run). length x.rows) same ∙ length-append r.rows r2.rows in
    let none : r2.rows ≡ [] = nil_from_length r2.rows (omega (arith, long)) in
    let ends : r2.end ≡ place + length front = (none_there (limit - length r.rows) version (number + length r.rows) (place + length front) rest rest (λ frame is some here. here) none).end in
    ap (λ (x : Run). x.end) same ∙ ends ∙ omega (arith, length-take size bytes, within)

pub more_numbered : (number : ℕ) (rows more : List PageRow) → AreNumbered number rows → AreNumbered (number + length rows) more → AreNumbered number (rows ++ more)
more_numbered number [] more are then_are = subst (λ n. AreNumbered n more) (omega arith) then_are
more_numbered number (r ∷ rows) more are then_are = (are.0, more_numbered (suc number) rows more are.1 (subst (λ n. AreNumbered n more) (omega arith) then_are))

record Room (s : PageState) : Type 0 where
  rows : room_of s ≤ 2 ^ 32 - 1 - s.count
  numbers : room_of s ≤ 2 ^ 63 - 1 - (s.least + s.count)

room : (s : PageState) → Room s
unfolding room_of
room s = record { rows = omega arith; numbers = omega arith }

some_file : (o : Option (List ℕ)) → 0 < length (bytes_of o) → o ≡ Some (bytes_of o)
some_file None some = absurd (omega (arith, some))
some_file (Some bytes) some = refl

-- the head page, so far as it was recorded, and the run behind that
module _ (a b : Folder) (turn : ℕ) (s : PageState) (r0 : PageRows) (reads : recorded s (bytes_of (a (page s.page))) ≡ Ok r0)
    (bytes : AreBytesIn 0 (run_behind s r0.version (bytes_of (a (page s.page)))).end (bytes_of (a (page s.page))))
    (head_is : b head ≡ a head) (newest : IsNewest (bytes_of (a head)) turn s) (tells : told (a head) ≡ Ok s) where
  abbrev file : List ℕ
  file = bytes_of (a (page s.page))

  abbrev r : Run
  r = run_behind s r0.version file

  abbrev read : PageRows
  read = with_run r0 r

  abbrev top : Page
  top = page_of s.page turn s read

  spelled : IsPage (take s.length file) r0.version s.least r0.rows × (length r0.rows ≡ s.count) × (r0.length ≡ s.length)
  spelled = pages_are_spelled s file r0 (front_bytes file s.length (λ i from to. bytes i from (omega (arith, to, (run_took (room_of s) r0.version (s.least + s.count) s.length (drop s.length file)).end_is)))) reads

  long : s.length ≤ length file
  long = (recorded_took s file r0 reads).long

  run_of : IsRunOf (room_of s) r0.version (s.least + s.count) s.length (drop s.length file) r
  run_of = is_run (room_of s) r0.version (s.least + s.count) s.length (drop s.length file) spelled.0.is_version
      (λ size ends. part_bytes file s.length size (λ i from to. bytes i (omega arith) (omega (arith, to, ends))))

  abbrev front : List ℕ
  front = take s.length file

  front_long : length front ≡ s.length
  front_long = omega (arith, length-take s.length file, long)

  bounds : InBounds s
  bounds = in_bounds s s (told_bounded (a head) turn s newest tells)

  few : length r.rows ≤ room_of s
  few = (run_took (room_of s) r0.version (s.least + s.count) s.length (drop s.length file)).few

  many : length read.rows ≡ s.count + length r.rows
  many = omega (arith, length-append r0.rows r.rows, spelled.1)

  numbered : AreNumbered s.least read.rows
  numbered = more_numbered s.least r0.rows r.rows (are_numbered r0.version s.least 1 r0.rows spelled.0.elements spelled.0.are)
      (subst (λ n. AreNumbered (s.least + n) r.rows) (sym spelled.1) (are_numbered r0.version (s.least + s.count) s.length r.rows (take run_of.size (drop s.length file)) run_of.are))

  pub head_sound : IsSound top
  head_sound = record {
    number = omega (arith, bounds.page, newest.fits.page);
    turn = newest.fits.turn_fits;
    least = bounds.least;
    numbers = omega (arith, bounds.numbers, many, few, (room s).numbers);
    count = omega (arith, newest.fits.count, many, few, (room s).rows);
    numbered = numbered;
    each = below_each s.first_open read.rows;
    from_fits = newest.fits.first_open;
    from = below_open s.first_open s.least read.rows numbered;
  }

  module _ (q : Queue) (top_is : q.top ≡ top) (marked_is : q.marked ≡ s.count) (cut : b (page s.page) ≡ option_map (take read.length) (a (page s.page))) (short : read.length < 2 ^ 64) where
    abbrev tail : List ℕ
    tail = take run_of.size (drop s.length file)

    ends : r.end ≡ s.length + run_of.size
    ends = run_ends (room_of s) r0.version (s.least + s.count) s.length (drop s.length file) run_of.size run_of.within run_of.are

    whole : take r.end file ≡ front ++ tail
    whole = ap (λ n. take n file) ends ∙ take-add s.length run_of.size file

    stands : b (page s.page) ≡ Some (front ++ tail)
    stands =
        let first : front ≡ r0.version ∷ spelled.0.elements = spelled.0.begins in
        cut ∙ ap (option_map (take r.end)) (some_file (a (page s.page)) (omega (arith, ap length first, length-take s.length file))) ∙ ap Some whole

    front_rows : take s.count read.rows ≡ r0.rows
    front_rows = take_at r0.rows r.rows s.count spelled.1

    rest_rows : drop s.count read.rows ≡ r.rows
    rest_rows = ap (λ n. drop n (r0.rows ++ r.rows)) (sym spelled.1) ∙ drop-append_seam r0.rows r.rows

    same_state : state_at top s.first_open (take s.count read.rows) (length front) ≡ s
    same_state = λ i. record { page = s.page; first_open = s.first_open; least = s.least; count = (ap length front_rows ∙ spelled.1) i; length = front_long i }

    held_as : TopHeld (record { tails = q.tails; top = top; marked = s.count }) (b head) (b (page s.page))
    held_as = record {
      front = front;
      tail = tail;
      stands = stands;
      marked = omega (arith, many);
      is_page = subst (IsPage front r0.version s.least) (sym front_rows) spelled.0;
      behind = subst (λ p. AreElements r0.version (s.least + s.count) p (drop s.count read.rows) tail) (sym front_long)
          (subst (λ l. AreElements r0.version (s.least + s.count) s.length l tail) (sym rest_rows) run_of.are);
      short = omega (arith, ap length whole, length-take r.end file, short);
      records = subst (λ (o : Option (List ℕ)). Records (bytes_of o) turn (state_at top s.first_open (take s.count read.rows) (length front))) (sym head_is)
          (subst (Records (bytes_of (a head)) turn) (sym same_state) (read_is_recorded (a head) turn s newest.fits newest.is tells));
    }

    pub head_held_so : TopHeld q (b head) (b (page s.page))
    head_held_so = subst (λ (x : Page). TopHeld (record { tails = q.tails; top = x; marked = q.marked }) (b head) (b (page s.page))) (sym top_is)
        (subst (λ (m : ℕ). TopHeld (record { tails = q.tails; top = top; marked = m }) (b head) (b (page s.page))) (sym marked_is) held_as)

-- what was read of the head page
pub record HeadParts (s : PageState) (file : List ℕ) (read : PageRows) : Type 0 where
  pub r0 : PageRows
  pub reads : recorded s file ≡ Ok r0
  pub is : read ≡ with_run r0 (run_behind s r0.version file)

ok_rows : {E : Type 0} {x y : PageRows} → ◌≡◌ {A = Result PageRows E} (Ok x) (Ok y) → x ≡ y
ok_rows is = cc

pub head_parts : (s : PageState) (file : List ℕ) (read : PageRows) → opened true s file ≡ Ok read → HeadParts s file read
head_parts s file read opens =
    let o = and_then_ok (recorded s file) (λ page. Ok (extended true s file page)) read opens in
    record { r0 = o.0; reads = o.1; is = sym (ok_rows o.2) }

-- the rows that are found of it
pub head_rows : (a : Folder) (s : PageState) (read : PageRows) → opened true s (bytes_of (a (page s.page))) ≡ Ok read → (found : Found) → read_all [] (head_held a s) ≡ Ok found
    → found ≡ top_found (head_held a s) read
head_rows a s read opens found is =
    let first = and_then_ok (opened_page true (head_held a s)) (λ read. Ok (top_found (head_held a s) read)) found is in
    let same : first.0 ≡ read = ok_rows (sym (damage_ok (opened true s (bytes_of (a (page s.page)))) _ first.0 first.1) ∙ opens) in
    sym (ok_found first.2) ∙ ap (top_found (head_held a s)) same
  where
    ok_found : {x y : Found} → ◌≡◌ {A = Result Found Damaged} (Ok x) (Ok y) → x ≡ y
    ok_found is = cc
