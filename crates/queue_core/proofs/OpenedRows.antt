-- The rows of pages that were read: how many of them are unread.
use Rattle.std.proofs.Common.{◌≡◌, ◌≤◌, inl, inr, ℕ, zero, suc, ◌+◌, ◌-◌, nat_lt, Bool, true, false, List, [], ◌∷◌, ◌++◌, length, map, drop, take, Option, Some, None, Result, Ok, if◌then◌else◌, refl, sym, ◌∙◌, ap, subst, arith, length-append}
use Rattle.std.proofs.Math.Path.{ap₂}
use Rattle.std.proofs.lemmas.Bool.{cases_Bool, cases_lt, cond-true, cond-false}
use Rattle.std.proofs.lemmas.Bool.Decides.{nat_tests}
use Rattle.io_traits.specs.declared.pages.PageState.{PageState}
use Rattle.queue_page.specs.Elements.{and_then, total_of}
use Rattle.queue_page.specs.Pages.{PageRows, recorded, opened, extended, room_of, run_behind, view_of, version_of}
use Rattle.queue_page.specs.Runs.{Run, run}
use Rattle.queue_page.specs.Views.{PageView}
use Rattle.queue_page.specs.declared.row.PageRow.{PageRow}
use Rattle.queue_page.proofs.ElementReads.{and_then_ok, element_took}
use Rattle.queue_page.proofs.PageReads.{recorded_took}
use Rattle.queue_page.proofs.RunReads.{each_run}
use Rattle.queue_files.specs.Folders.{page, Folder}
use Rattle.queue_files.specs.Checkpoints.{misfit}
use Rattle.queue_files.specs.Found.{Damaged, Found, Held, falling, opened_page, or_damage, read_all, row_of, since, top_found, with_page}
use Rattle.queue_files.specs.Kept.{AreNumbered, leading}
use Rattle.queue_files.specs.Opening.{held_tail, view_at, views_of}
use Rattle.queue_files.specs.Queues.{below}
use Rattle.queue_files.specs.declared.sealed_pages.SealedPage.{SealedPage}
use Rattle.queue_files.proofs.QueueHead.{more_numbered}
use Rattle.queue_files.proofs.QueuePages.{damage_ok}
use Rattle.queue_core.specs.Opening.{below_number, page_opened, tails_opened, unread_in, unread_of}
use Rattle.queue_core.specs.Views.{OpenPageView}

-- ---- rows with consecutive numbers

none_passed : (from number : ℕ) (rows : List PageRow) → from ≤ number → AreNumbered number rows → length (since from rows) ≡ length rows
none_passed from number [] past are = refl
none_passed from number (r ∷ rows) past are =
    let more : nat_lt r.number from ≡ false = grind (arith, nat_tests, past, are.0) in
    ap length (cond-false (nat_lt r.number from) (since from rows) (row_of r ∷ since from rows) more) ∙ ap suc (none_passed from (suc number) rows (omega (arith, past)) are.1)

-- those that aren't below a number are all but the first ones
pub unread_rows : (from number : ℕ) (rows : List PageRow) → AreNumbered number rows → length (since from rows) ≡ length rows - leading (below_number from number (length rows))
unread_rows from number [] are = refl
unread_rows from number (r ∷ rows) are = elim (cases_lt number from) [
  | inl less ↦
      let is : nat_lt r.number from ≡ true = grind (arith, nat_tests, less, are.0) in
      let here : nat_lt number from ≡ true = grind (arith, nat_tests, less) in
      let led : leading (below_number from number (suc (length rows))) ≡ suc (leading (below_number from (suc number) (length rows))) =
      ap (λ (b : Bool). if b then suc (leading (below_number from (suc number) (length rows))) else 0) here in
      ap length (cond-true (nat_lt r.number from) (since from rows) (row_of r ∷ since from rows) is) ∙ unread_rows from (suc number) rows are.1 ∙ omega (arith, led)
  | inr more ↦
      let is : nat_lt r.number from ≡ false = grind (arith, nat_tests, more, are.0) in
      let here : nat_lt number from ≡ false = grind (arith, nat_tests, more) in
      let led : leading (below_number from number (suc (length rows))) ≡ 0 =
      ap (λ (b : Bool). if b then suc (leading (below_number from (suc number) (length rows))) else 0) here in
      ap length (cond-false (nat_lt r.number from) (since from rows) (row_of r ∷ since from rows) is) ∙ ap suc (none_passed from (suc number) rows (omega (arith, more)) are.1) ∙ omega (arith, led)
]

pub below_same : (from number : ℕ) (rows : List PageRow) → AreNumbered number rows → below from rows ≡ below_number from number (length rows)
below_same from number [] are = refl
below_same from number (r ∷ rows) are = ap₂ (λ (n : ℕ) (l : List Bool). nat_lt n from ∷ l) are.0 (below_same from (suc number) rows are.1)

-- ---- the rows of a page

run_numbered : (version limit number place : ℕ) (bytes : List ℕ) → AreNumbered number (run limit version number place bytes).rows
run_numbered version limit number place bytes =
    each_run version (λ limit number place bytes (r : Run). AreNumbered number r.rows) (λ limit number place bytes none. tt) (λ limit number place bytes m some fault. tt)
    (λ limit number place bytes row some read rest. (
      (element_took version number place bytes row read).row_number,
      let next : number + 1 ≡ suc number = omega arith in subst (λ (n : ℕ). AreNumbered n (run limit version (number + 1) (place + total_of bytes) (drop (total_of bytes) bytes)).rows) next rest,
    ))
    limit number place bytes

ok_rows : {E : Type 0} {x y : PageRows} → ◌≡◌ {A = Result PageRows E} (Ok x) (Ok y) → x ≡ y
ok_rows is = cc

pub opened_numbered : (is_head : Bool) (s : PageState) (file : List ℕ) (read : PageRows) → opened is_head s file ≡ Ok read → AreNumbered s.least read.rows
opened_numbered is_head s file read opens =
    let o = and_then_ok (recorded s file) (λ page. Ok (extended is_head s file page)) read opens in
    let took = recorded_took s file o.0 o.1 in
    let front : AreNumbered s.least o.0.rows = subst (AreNumbered s.least) (sym took.rows_are) (run_numbered (version_of (take s.length file)) s.length s.least 1 (drop 1 (take s.length file))) in
    subst (λ (r : PageRows). AreNumbered s.least r.rows) (ok_rows o.2) (by is_head o.0 front took.count)
  where
    by : (b : Bool) (r0 : PageRows) → AreNumbered s.least r0.rows → length r0.rows ≡ s.count → AreNumbered s.least (extended b s file r0).rows
    by false r0 front count = front
    by true r0 front count =
        let more = run_behind s r0.version file in
        more_numbered s.least r0.rows more.rows front (subst (λ (n : ℕ). AreNumbered (s.least + n) more.rows) (sym count) (run_numbered r0.version (room_of s) (s.least + s.count) s.length (drop s.length file)))

-- what is read of it, as callers see it
ok_view : {x y : PageView} → ◌≡◌ {A = Result PageView Damaged} (Ok x) (Ok y) → x ≡ y
ok_view is = cc

pub view_is : (is_head : Bool) (p : Held) (read : PageRows) (view : PageView) → opened_page is_head p ≡ Ok read → view_at is_head p ≡ Ok view → view ≡ view_of p.state read
view_is is_head p read view opens views =
    let is = damage_ok (opened is_head p.state p.bytes) (λ m. (page p.number, misfit m.place m.found m.expected)) read opens in
    ok_view (sym views ∙ ap (λ r. or_damage (and_then r (λ rows. Ok (view_of p.state rows))) (λ m. (page p.number, misfit m.place m.found m.expected))) is)

page_count : (folder : List ℕ) (number turn : ℕ) (is_head : Bool) (p : Held) (read : PageRows) (view : PageView) → opened_page is_head p ≡ Ok read → view_at is_head p ≡ Ok view
    → length (since p.state.first_open read.rows) ≡ unread_of (page_opened folder number turn p.state.first_open view)
page_count folder number turn is_head p read view opens views =
    unread_rows p.state.first_open p.state.least read.rows (opened_numbered is_head p.state p.bytes read (damage_ok (opened is_head p.state p.bytes) (λ m. (page p.number, misfit m.place m.found m.expected)) read opens))
    ∙ ap (λ (v : PageView). unread_of (page_opened folder number turn p.state.first_open v)) (sym (view_is is_head p read view opens views))

-- ---- the rows of all pages

ok_found : {x y : Found} → ◌≡◌ {A = Result Found Damaged} (Ok x) (Ok y) → x ≡ y
ok_found is = cc

ok_views : {x y : List PageView} → ◌≡◌ {A = Result (List PageView) Damaged} (Ok x) (Ok y) → x ≡ y
ok_views is = cc

module _ (folder : List ℕ) (f : Folder) (top : Held) (number turn : ℕ) (v : PageView) (top_is : view_at true top ≡ Ok v) where
  abbrev top_page : OpenPageView
  top_page = page_opened folder number turn top.state.first_open v

  pub all_count : (tails : List SealedPage) (views : List PageView) (found : Found) → read_all (map (held_tail f) tails) top ≡ Ok found → views_of f tails ≡ Ok views
      → length found.rows ≡ unread_in (tails_opened folder tails views) + unread_of top_page
  all_count [] views found reads seen =
      let first = and_then_ok (opened_page true top) (λ read. Ok (top_found top read)) found reads in
      ap (λ (x : Found). length x.rows) (sym (ok_found first.2)) ∙ page_count folder number turn true top first.0 v first.1 top_is ∙ omega arith
  all_count (t ∷ tails) views found reads seen =
      let p = held_tail f t in
      let first = and_then_ok (opened_page false p) (λ read. and_then (read_all (map (held_tail f) tails) top) (λ rest. Ok (with_page p read rest))) found reads in
      let behind = and_then_ok (read_all (map (held_tail f) tails) top) (λ rest. Ok (with_page p first.0 rest)) found first.2 in
      let view = and_then_ok (view_at false p) (λ y. and_then (views_of f tails) (λ ys. Ok (y ∷ ys))) views seen in
      let others = and_then_ok (views_of f tails) (λ ys. Ok (view.0 ∷ ys)) views view.2 in
      let here = page_count folder t.number t.turn false p first.0 view.0 first.1 view.1 in
      let rest = all_count tails others.0 behind.0 behind.1 others.1 in
      let all : length found.rows ≡ length (since t.state.first_open first.0.rows) + length behind.0.rows =
      ap (λ (x : Found). length x.rows) (sym (ok_found behind.2)) ∙ length-append (since t.state.first_open first.0.rows) behind.0.rows in
      subst (λ vs. length found.rows ≡ unread_in (tails_opened folder (t ∷ tails) vs) + unread_of top_page) (ok_views others.2) (omega (arith, all, here, rest))

-- ---- no more than there are numbers

leading_below : (from number count : ℕ) → leading (below_number from number count) ≤ count
leading_below from number zero = omega arith
leading_below from number (suc count) = by (nat_lt number from) (leading_below from (suc number) count)
  where
    by : (b : Bool) → leading (below_number from (suc number) count) ≤ count → (if b then suc (leading (below_number from (suc number) count)) else 0) ≤ suc count
    by true rest = omega (arith, rest)
    by false rest = omega arith

none_falls : (end : ℕ) (p : Held) (rest : List Held) → falling end (p ∷ rest) ≡ None → (end ≤ p.state.least) × (falling (p.state.least + p.state.count) rest ≡ None)
none_falls end p rest none = elim (cases_Bool (nat_lt p.state.least end)) [
  | inl less ↦ absurd (some_none (sym (cond-true (nat_lt p.state.least end) (Some (page p.number, misfit 0 p.state.least end)) (falling (p.state.least + p.state.count) rest) less) ∙ none))
  | inr more ↦ (grind (arith, nat_tests, more), sym (cond-false (nat_lt p.state.least end) (Some (page p.number, misfit 0 p.state.least end)) (falling (p.state.least + p.state.count) rest) more) ∙ none)
]
  where
    some_none : {d : Damaged} → ◌≡◌ {A = Option Damaged} (Some d) None → ⊥
    some_none is = absurd cc

-- the same states, one by one
abbrev pub SameStates : List SealedPage → List PageView → Type 0
SameStates tails views = map (λ (t : SealedPage). t.state) tails ≡ map (λ (p : PageView). p.state) views

pub first_state : {x y : PageState} {xs ys : List PageState} → x ∷ xs ≡ y ∷ ys → x ≡ y
first_state is = cc

pub other_states : {x y : PageState} {xs ys : List PageState} → x ∷ xs ≡ y ∷ ys → xs ≡ ys
other_states is = cc

pub same_long : (tails : List SealedPage) (views : List PageView) → SameStates tails views → length tails ≡ length views
same_long [] [] same = refl
same_long [] (v ∷ views) same = absurd (omega (arith, ap length same))
same_long (t ∷ tails) [] same = absurd (omega (arith, ap length same))
same_long (t ∷ tails) (v ∷ views) same = ap suc (same_long tails views (other_states same))

pub few_unread : (folder : List ℕ) (f : Folder) (top : Held) (end : ℕ) (tails : List SealedPage) (views : List PageView) → SameStates tails views → falling end (map (held_tail f) tails ++ top ∷ []) ≡ None
    → end + unread_in (tails_opened folder tails views) ≤ top.state.least
few_unread folder f top end [] views same falls = omega (arith, (none_falls end top [] falls).0)
few_unread folder f top end (t ∷ tails) [] same falls = absurd (omega (arith, ap length same))
few_unread folder f top end (t ∷ tails) (v ∷ views) same falls =
    let here = none_falls end (held_tail f t) (map (held_tail f) tails ++ top ∷ []) falls in
    let rest = few_unread folder f top (t.state.least + t.state.count) tails views (other_states same) here.1 in
    omega (arith, here.0, rest, ap (λ (s : PageState). s.count) (first_state same))
