-- The pages that were read are pages of a queue.
use Rattle.std.proofs.Common.{◌≡◌, ◌≢◌, ◌⊎◌, inl, inr, ⊎_elim, ℕ, suc, ◌+◌, ◌-◌, ◌<◌, ◌≤◌, ◌^◌, ◌==◌, nat_lt, Bool, true, false, List, [], ◌∷◌, ◌++◌, length, map, take, drop, Option, Some, None, IsSome, Result, Ok, Err, if◌then◌else◌, refl, sym, ◌∙◌, ap, subst, arith, length-take, take-append-drop}
use Rattle.std.proofs.lemmas.Bool.{cases_Bool, cases_lt, cond-true, cond-false, false≢true}
use Rattle.std.proofs.lemmas.Bool.Decides.{nat_tests}
use Rattle.io_traits.specs.Reads.{bytes_of}
use Rattle.io_traits.specs.declared.pages.PageState.{PageState}
use Rattle.slot_files.specs.Checkpoints.{slots_of}
use Rattle.queue_page.specs.Blocks.{AreBytesIn}
use Rattle.queue_page.specs.Elements.{and_then}
use Rattle.queue_page.specs.Grammar.{AreElements, IsPage}
use Rattle.queue_page.specs.Pages.{PageRows, recorded, opened, extended, view_of}
use Rattle.queue_page.specs.Views.{PageView}
use Rattle.queue_page.specs.declared.row.PageRow.{PageRow}
use Rattle.queue_page.proofs.ElementReads.{and_then_ok}
use Rattle.queue_page.proofs.FileBytes.{front_bytes}
use Rattle.queue_page.proofs.PageReads.{recorded_took}
use Rattle.queue_page.proofs.Spelling.{pages_are_spelled}
use Rattle.queue_files.specs.Folders.{page, checkpoint, Folder}
use Rattle.queue_files.specs.Checkpoints.{Mismatch, misfit, bounded, told, told_by}
use Rattle.queue_files.specs.Found.{Damaged, or_damage, Found, since, Held, falling, opened_page, with_page, read_all}
use Rattle.queue_files.specs.Kept.{Page, leading, state_as, NoTail, AreNumbered, IsSound, Rising, all_rows}
use Rattle.queue_files.specs.Resting.{Records, TailHeld, TailsHeld}
use Rattle.queue_files.proofs.Recording.{read_is_recorded}
use Rattle.queue_files.specs.Opening.{held_tail, view_at, views_of}
use Rattle.queue_files.specs.Reading.{AreStanding}
use Rattle.queue_files.specs.Queues.{below, page_of, ArePages, HaveBytes, IsNewest, AreNewest, AreTold}
use Rattle.queue_files.specs.declared.sealed_pages.SealedPage.{SealedPage}

-- ---- rows

pub are_numbered : (version number place : ℕ) (rows : List PageRow) (bytes : List ℕ) → AreElements version number place rows bytes → AreNumbered number rows
are_numbered version number place [] bytes are = tt
are_numbered version number place (r ∷ rows) bytes are = (are.3, subst (λ n. AreNumbered n rows) (omega arith) (are_numbered version (number + 1) r.next rows are.1 are.5))

pub below_each : (from : ℕ) (rows : List PageRow) → length (below from rows) ≡ length rows
below_each from [] = refl
below_each from (r ∷ rows) = ap suc (below_each from rows)

-- no row is below that isn't among the first of them
pub below_open : (from number : ℕ) (rows : List PageRow) → AreNumbered number rows → (from ≤ number + leading (below from rows)) ⊎ (number + length rows ≤ number + leading (below from rows))
below_open from number [] are = inr (omega arith)
below_open from number (r ∷ rows) are = elim (cases_Bool (nat_lt r.number from)) [
  | inl less ↦
      let here : leading (below from (r ∷ rows)) ≡ suc (leading (below from rows)) = ap (λ (a : Bool). if a then suc (leading (below from rows)) else 0) less in
      ⊎_elim (λ past. inl (omega (arith, past, here))) (λ all. inr (omega (arith, all, here))) (below_open from (suc number) rows are.1)
  | inr more ↦
      let more_is : from ≤ r.number = grind (arith, nat_tests, more) in
      inl (omega (arith, more_is, are.0))
]

-- ---- what is recorded of a page

-- the bounds of what a checkpoint tells
pub record InBounds (s : PageState) : Type 0 where
  pub page : s.page ≢ 0xFFFF_FFFF
  pub least : 1 ≤ s.least
  pub numbers : s.least + s.count < 2 ^ 63

err_not_ok : (m : Mismatch) (s : PageState) → ◌≡◌ {A = Result PageState Mismatch} (Err m) (Ok s) → ⊥
err_not_ok m s is = absurd cc

in_bounds_by : (s t : PageState) (a b c : Bool) → (a ≡ false → s.page ≢ 0xFFFF_FFFF) → (b ≡ false → 1 ≤ s.least) → (c ≡ false → s.least + s.count < 2 ^ 63)
    → ◌≡◌ {A = Result PageState Mismatch}
    (if a then Err (misfit 0 s.page 0xFFFF_FFFE) else (if b then Err (misfit 0 s.least 1) else (if c then Err (misfit 0 s.least (0x7FFF_FFFF_FFFF_FFFF - s.count)) else Ok s))) (Ok t) → InBounds s
in_bounds_by s t true b c one two three is = absurd (err_not_ok (misfit 0 s.page 0xFFFF_FFFE) t is)
in_bounds_by s t false true c one two three is = absurd (err_not_ok (misfit 0 s.least 1) t is)
in_bounds_by s t false false true one two three is = absurd (err_not_ok (misfit 0 s.least (0x7FFF_FFFF_FFFF_FFFF - s.count)) t is)
in_bounds_by s t false false false one two three is = record { page = one refl; least = two refl; numbers = three refl }

pub in_bounds : (s t : PageState) → bounded s ≡ Ok t → InBounds s
unfolding bounded
in_bounds s t is = in_bounds_by s t (s.page == 0xFFFF_FFFF) (s.least == 0) (nat_lt 0x7FFF_FFFF_FFFF_FFFF (s.least + s.count)) (λ e. grind (arith, nat_tests, e)) (λ e. grind (arith, nat_tests, e)) (λ e. grind (arith, nat_tests, e)) is

within_if : (v : Bool) (s : PageState) (m : Mismatch) → (if v then bounded s else Err m) ≡ Ok s → bounded s ≡ Ok s
within_if true s m is = is
within_if false s m is = absurd (err_not_ok m s is)

-- what is told is within its bounds
pub told_bounded : (slots : Option (List ℕ)) (turn : ℕ) (s : PageState) → IsNewest (bytes_of slots) turn s → told slots ≡ Ok s → bounded s ≡ Ok s
told_bounded slots turn s newest tells =
    let of = slots_of (bytes_of slots) in
    within_if (of.version == 1) s (misfit 0 of.version 1) (sym (ap (told_by of) newest.is) ∙ tells)

-- ---- one page below the head

pub damage_ok : {X M : Type 0} (r : Result X M) (damage : M → Damaged) (x : X) → or_damage r damage ≡ Ok x → r ≡ Ok x
damage_ok (Ok y) damage x is = cc
damage_ok (Err m) damage x is = absurd cc

opened_rows : (s : PageState) (file : List ℕ) (read : PageRows) → opened false s file ≡ Ok read → recorded s file ≡ Ok read
opened_rows s file read is =
    let r = and_then_ok (recorded s file) (λ page. Ok (extended false s file page)) read is in
    r.1 ∙ r.2

module _ (number turn : ℕ) (s : PageState) (slots file : Option (List ℕ)) (read : PageRows) (bytes : AreBytesIn 0 s.length (bytes_of file)) (some : IsSome file) (reads : recorded s (bytes_of file) ≡ Ok read)
    (newest : IsNewest (bytes_of slots) turn s) (tells : told slots ≡ Ok s) where
  abbrev p : Page
  p = page_of number turn s read

  spelled : IsPage (take s.length (bytes_of file)) read.version s.least read.rows × (length read.rows ≡ s.count) × (read.length ≡ s.length)
  spelled = pages_are_spelled s (bytes_of file) read (front_bytes (bytes_of file) s.length bytes) reads

  abbrev front : List ℕ
  front = take s.length (bytes_of file)

  long : length front ≡ s.length
  long = omega (arith, length-take s.length (bytes_of file), (recorded_took s (bytes_of file) read reads).long)

  bounds : InBounds s
  bounds = in_bounds s s (told_bounded slots turn s newest tells)

  is_bytes : (o : Option (List ℕ)) → IsSome o → o ≡ Some (bytes_of o)
  is_bytes None none = absurd (false≢true none)
  is_bytes (Some b) is = refl

  same_state : state_as s.page p p.from p.rows (length front) ≡ s
  same_state = λ i. record { page = s.page; first_open = s.first_open; least = s.least; count = spelled.1 i; length = long i }

  pub tail_held : TailHeld p slots file
  tail_held = record {
    bytes = front;
    rest = drop s.length (bytes_of file);
    stands = is_bytes file some ∙ ap Some (sym (take-append-drop s.length (bytes_of file)));
    is_page = spelled.0;
    short = omega (arith, long, newest.fits.length);
    named = s.page;
    low = omega (arith, bounds.page, newest.fits.page);
    records = subst (Records (bytes_of slots) turn) (sym same_state) (read_is_recorded slots turn s newest.fits newest.is tells);
  }

  pub count_is : length read.rows ≡ s.count
  count_is = spelled.1

  pub tail_sound : number < 2 ^ 32 - 1 → IsSound p
  tail_sound low =
      let numbered = are_numbered read.version s.least 1 read.rows spelled.0.elements spelled.0.are in
      record {
        number = low;
        turn = newest.fits.turn_fits;
        least = bounds.least;
        numbers = omega (arith, bounds.numbers, spelled.1);
        count = omega (arith, newest.fits.count, spelled.1);
        numbered = numbered;
        each = below_each s.first_open read.rows;
        from_fits = newest.fits.first_open;
        from = below_open s.first_open s.least read.rows numbered;
      }

-- ---- all of them

-- the first of the pages as they are to callers
record FirstView (b : Folder) (s : PageState) (tails : List SealedPage) (views : List PageView) (read : PageRows) : Type 0 where
  more : List PageView
  is : views ≡ view_of s read ∷ more
  behind : views_of b tails ≡ Ok more

first_view : (b : Folder) (t : SealedPage) (tails : List SealedPage) (views : List PageView) (read : PageRows) → opened false t.state (bytes_of (b (page t.number))) ≡ Ok read → views_of b (t ∷ tails) ≡ Ok views
    → FirstView b t.state tails views read
first_view b t tails views read opens seen =
    let first = and_then_ok (view_at false (held_tail b t)) (λ y. and_then (views_of b tails) (λ ys. Ok (y ∷ ys))) views seen in
    let rest = and_then_ok (views_of b tails) (λ ys. Ok (first.0 ∷ ys)) views first.2 in
    let is : view_at false (held_tail b t) ≡ Ok (view_of t.state read) =
    ap (λ r. or_damage (and_then r (λ rows. Ok (view_of t.state rows))) (λ m. (page t.number, misfit m.place m.found m.expected))) opens in
    record { more = rest.0; is = sym (ok_views rest.2) ∙ ap (λ v. v ∷ rest.0) (ok_view (sym first.1 ∙ is)); behind = rest.1 }
  where
    ok_views : {x y : List PageView} → ◌≡◌ {A = Result (List PageView) Damaged} (Ok x) (Ok y) → x ≡ y
    ok_views is = cc

    ok_view : {x y : PageView} → ◌≡◌ {A = Result PageView Damaged} (Ok x) (Ok y) → x ≡ y
    ok_view is = cc

pub record Built (b : Folder) (from end h : ℕ) (tails : List SealedPage) (views : List PageView) (top : Page) (found : Found) : Type 0 where
  pub pages : List Page
  pub are : ArePages tails views pages
  pub held : TailsHeld pages b
  pub rising : Rising from end pages top
  pub rows : found.rows ≡ all_rows pages top
  pub gone : (n : ℕ) → from ≤ n → n < h → NoTail n pages → b (page n) ≡ None

module _ (b : Folder) (top : Held) (q_top : Page) (low : q_top.number < 2 ^ 32 - 1) (sound : IsSound q_top) (least_is : q_top.least ≡ top.state.least)
    (rows_are : (found : Found) → read_all [] top ≡ Ok found → found.rows ≡ since q_top.from q_top.rows) where
  falls_not : (end : ℕ) (p : Held) (rest : List Held) → falling end (p ∷ rest) ≡ None → (end ≤ p.state.least) × (falling (p.state.least + p.state.count) rest ≡ None)
  falls_not end p rest none = elim (cases_Bool (nat_lt p.state.least end)) [
    | inl less ↦ absurd (some_none (sym (cond-true (nat_lt p.state.least end) (Some (page p.number, misfit 0 p.state.least end)) (falling (p.state.least + p.state.count) rest) less) ∙ none))
    | inr more ↦ (grind (arith, nat_tests, more), sym (cond-false (nat_lt p.state.least end) (Some (page p.number, misfit 0 p.state.least end)) (falling (p.state.least + p.state.count) rest) more) ∙ none)
  ]
    where
      some_none : {d : Damaged} → ◌≡◌ {A = Option Damaged} (Some d) None → ⊥
      some_none is = absurd cc

  pub build : (from end : ℕ) (tails : List SealedPage) (views : List PageView) (found : Found) → views_of b tails ≡ Ok views → from ≤ q_top.number → read_all (map (held_tail b) tails) top ≡ Ok found
      → falling end (map (held_tail b) tails ++ top ∷ []) ≡ None → AreStanding from q_top.number b (map (λ t. t.number) tails) → HaveBytes b tails → AreNewest b tails → AreTold b tails
      → Built b from end q_top.number tails views q_top found
  build from end [] views found seen below_top reads falls stand bytes newest tells =
      let f = falls_not end top [] falls in
      record { pages = []; are = refl; held = tt; rising = (below_top, omega (arith, f.0, least_is), sound); rows = rows_are found reads; gone = λ n past less none. stand n past less }
  build from end (t ∷ tails) views found seen below_top reads falls stand bytes newest tells =
      let f = falls_not end (held_tail b t) (map (held_tail b) tails ++ top ∷ []) falls in
      let first = and_then_ok (opened_page false (held_tail b t)) (λ read. and_then (read_all (map (held_tail b) tails) top) (λ rest. Ok (with_page (held_tail b t) read rest))) found reads in
      let read = first.0 in
      let behind = and_then_ok (read_all (map (held_tail b) tails) top) (λ rest. Ok (with_page (held_tail b t) read rest)) found first.2 in
      let file = b (page t.number) in
      let slots = b (checkpoint t.number) in
      let opened_is = damage_ok (opened false t.state (bytes_of file)) (λ m. (page t.number, misfit m.place m.found m.expected)) read first.1 in
      let recorded_is = opened_rows t.state (bytes_of file) read opened_is in
      let one = first_view b t tails views read opened_is seen in
      let held = tail_held t.number t.turn t.state slots file read bytes.0 stand.2 recorded_is newest.0 tells.0 in
      let count = count_is t.number t.turn t.state slots file read bytes.0 stand.2 recorded_is newest.0 tells.0 in
      let is_sound = tail_sound t.number t.turn t.state slots file read bytes.0 stand.2 recorded_is newest.0 tells.0 (omega (arith, stand.1, low)) in
      let rest = build (suc t.number) (t.state.least + t.state.count) tails one.more behind.0 one.behind (omega (arith, stand.1)) behind.1 f.1 stand.4 bytes.1 newest.1 tells.1 in
      let with_rest : with_page (held_tail b t) read behind.0 ≡ found = found_ok behind.2 in
      record {
        pages = page_of t.number t.turn t.state read ∷ rest.pages;
        are = (read, rest.pages, one.more, refl, count, one.is, rest.are);
        held = (held, rest.held);
        rising = (stand.0, stand.1, f.0, is_sound, subst (λ e. Rising (suc t.number) e rest.pages q_top) (ap (λ n. t.state.least + n) (sym count)) rest.rising);
        rows = ap (λ (x : Found). x.rows) (sym with_rest) ∙ ap (λ l. since t.state.first_open read.rows ++ l) rest.rows;
        gone = λ n past less none. ⊎_elim (λ before. stand.3 n past before) (λ after. rest.gone n (omega (arith, after, none.0)) less none.1) (cases_lt n t.number);
      }
    where
      found_ok : {x y : Found} → ◌≡◌ {A = Result Found Damaged} (Ok x) (Ok y) → x ≡ y
      found_ok is = cc
