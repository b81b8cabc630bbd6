-- The unread rows of a queue that was opened, and of one of which rows are acknowledged.
use Rattle.std.proofs.Common.{◌≡◌, inl, inr, ℕ, suc, ◌+◌, ◌-◌, ◌<◌, ◌≤◌, ◌==◌, nat_lt, false, IsTrue, List, [], ◌∷◌, ◌++◌, length, map, drop, refl, sym, ap, ◌∙◌, subst, arith, append-nil, length-append}
use Rattle.std.specs.Prelude.{⊤}
use Rattle.std.proofs.Math.Path.{ap₂}
use Rattle.std.proofs.lemmas.Bool.{cond-false, cond-true, cases_Bool}
use Rattle.std.proofs.lemmas.Bool.Decides.{nat_tests}
use Rattle.io_traits.specs.Folders.{Content}
use Rattle.io_traits.specs.Reads.{bytes_of}
use Rattle.io_traits.specs.declared.stores.Store.{Ghosts as StoreWords}
use Rattle.queue_page.specs.Views.{PageView}
use Rattle.queue_page.specs.declared.row.PageRow.{PageRow}
use Rattle.queue_files.specs.Folders.{head, page, checkpoint, names_in}
use Rattle.queue_files.specs.Found.{Row, since}
use Rattle.queue_files.specs.Kept.{Page, Queue, AreNumbered, Rising, all_rows, leading}
use Rattle.queue_files.specs.Resting.{TailsHeld}
use Rattle.queue_files.proofs.Whole.{rising_top}
use Rattle.queue_files.specs.Marks.{read_in}
use Rattle.queue_files.specs.declared.opening.OpenedQueue.{OpenedQueue}
use Rattle.queue_files.specs.declared.sealed_pages.SealedPage.{SealedPage}
use Rattle.queue_core.specs.Acknowledging.{acknowledged_page}
use Rattle.queue_core.specs.Calls.{behind_acknowledge, with_acknowledged}
use Rattle.queue_core.specs.NextBatch.{StandsAt, Rise, left_in, unread_rows_in}
use Rattle.queue_core.specs.Opening.{below_number, cursor_at, first_of, page_opened, queue_opened, tails_opened, unread_in, unread_of, OpensAs}
use Rattle.queue_core.specs.Opens.{AreLong, ArePagesOf, IsPageOf, Opens}
use Rattle.queue_core.specs.QueueBatches.{AreNamed, CursorStands, IsRead, page_rows}
use Rattle.queue_core.specs.Taking.{Stand, all_pages, begun}
use Rattle.queue_core.specs.UnreadRows.{HasUnread, AcknowledgedLeavesUnread, OpenedRowsAreUnread}
use Rattle.queue_core.specs.Views.{OpenPageView, CursorView, QueueView}
use Rattle.queue_core.specs.declared.limits.Limits.{Limits}
use Rattle.queue_core.specs.declared.limits.Numbers.{Numbers}
use Rattle.queue_core.proofs.Acknowledging.{acknowledged_is_open}
use Rattle.queue_core.proofs.OpenedRows.{unread_rows}
use Rattle.queue_core.proofs.QueueBatch.{all_rise, file_long, tail_first, top_first}

-- the rows of pages, the last of which is the head page
abbrev pub rows_with : List Page → Page → List (List PageRow)
rows_with pages last = map (λ (p : Page). p.rows) pages ++ last.rows ∷ []

-- ---- where rows stand in the files

-- all rows of these pages stand in their files
pub record StandsFirst (content : Content) (o : OpenPageView) (rows : List PageRow) : Type 0 where
  pub long : o.page.state.length ≤ length (bytes_of (content o.file))
  pub first : StandsAt o rows (bytes_of (content o.file)) o.page.state.least 1

abbrev pub AllFirst : Content → List OpenPageView → List (List PageRow) → Type 0
AllFirst content [] rows = ⊤
AllFirst content (o ∷ pages) [] = ⊤
AllFirst content (o ∷ pages) (rows ∷ others) = StandsFirst content o rows × AllFirst content pages others

all_first : (folder : List ℕ) (content : Content) (tails : List OpenPageView) (top : OpenPageView) (pages : List Page) (last : Page) → ArePagesOf tails pages → TailsHeld pages (read_in (names_in folder) content)
    → AreLong folder tails content → AreNamed folder (tails ++ top ∷ []) → StandsFirst content top last.rows → AllFirst content (tails ++ top ∷ []) (rows_with pages last)
all_first folder content [] top [] last are held long named stands = (stands, tt)
all_first folder content [] top (p ∷ pages) last are held long named stands = elim are [ ]
all_first folder content (o ∷ tails) top [] last are held long named stands = elim are [ ]
all_first folder content (o ∷ tails) top (p ∷ pages) last are held long named stands = (
  record {
    long = file_long folder content o named.0 long.0;
    first = tail_first folder content o p (content (names_in folder (checkpoint p.number))) are.0 named.0 held.0;
  },
  all_first folder content tails top pages last are.1 held.1 long.1 named.1 stands,
)

last_named : (folder : List ℕ) (tails : List OpenPageView) (top : OpenPageView) → AreNamed folder (tails ++ top ∷ []) → top.file ≡ names_in folder (page top.number)
last_named folder [] top named = named.0
last_named folder (o ∷ tails) top named = last_named folder tails top named.1

module _ {S : Type 0} (store : StoreWords S) (v : QueueView) (q : Queue) (s : S) (tells : IsTrue store.tells) (opens : Opens store v q s) (named : AreNamed v.folder (all_pages v)) where
  pub stand_first : AllFirst (store.seen s) (all_pages v) (page_rows q)
  stand_first =
      let held = opens.ready.held tells in
      let files = opens.files tells in
      let is = last_named v.folder v.tails v.top named in
      all_first v.folder (store.seen s) v.tails v.top q.tails q.top opens.tails held.tails files.tails named (record {
        long = file_long v.folder (store.seen s) v.top is (omega (arith, files.top));
        first = top_first v.folder (store.seen s) v.top q (store.seen s (names_in v.folder head)) (rising_top 0 0 q.tails q.top opens.ready.is) opens.top is held.top;
      })

  pub is_read : IsRead (store.seen s) v q
  is_read = record { is = opens.ready.is; held = opens.ready.held tells; tails = opens.tails; top = opens.top; files = opens.files tells; named = named }

-- no row of later pages is the next one
pub none_later : (content : Content) (c : CursorView) (from : ℕ) (pages : List OpenPageView) (rows : List (List PageRow)) → Rise from pages → c.page < from → CursorStands content c pages rows
none_later content c from [] rows rise less = tt
none_later content c from (o ∷ pages) [] rows less = tt
none_later content c from (o ∷ pages) (rows ∷ others) rise less =
    (λ here. absurd (omega (arith, here, less, rise.0)), none_later content c (suc o.number) pages others rise.1 (omega (arith, less, rise.0)))

-- ---- a queue that was opened

-- all rows of a page are left, if none of them is behind the next row
pub whole_left : (s : Stand) (o : OpenPageView) (rows : List PageRow) → s.page ≤ o.number → (o.number ≡ s.page → s.reading.number ≡ o.page.state.least) → left_in s o rows ≡ rows
whole_left s o rows within first =
    let t : nat_lt o.number s.page ≡ false = grind (arith, nat_tests, within) in
    cond-false _ _ _ t ∙ elim (cases_Bool (o.number == s.page)) [
      | inl this ↦
          let none : s.reading.number - o.page.state.least ≡ 0 = omega (arith, first (grind (arith, nat_tests, this))) in
          cond-true _ _ _ this ∙ ap (λ n. drop n rows) none
      | inr other ↦ cond-false _ _ _ other
    ]

later_rows : (s : Stand) (from : ℕ) (tails : List OpenPageView) (top : OpenPageView) (pages : List Page) (last : Page) → ArePagesOf tails pages → IsPageOf top last → Rise from (tails ++ top ∷ []) → s.page < from
    → unread_rows_in s (tails ++ top ∷ []) (rows_with pages last) ≡ all_rows pages last
later_rows s from [] top [] last are top_is rise less =
    append-nil (since top.from (left_in s top last.rows))
    ∙ ap₂ (λ (n : ℕ) (l : List PageRow). since n l) (sym top_is.from) (whole_left s top last.rows (omega (arith, less, rise.0)) (λ is. absurd (omega (arith, is, less, rise.0))))
later_rows s from [] top (p ∷ pages) last are top_is rise less = elim are [ ]
later_rows s from (o ∷ tails) top [] last are top_is rise less = elim are [ ]
later_rows s from (o ∷ tails) top (p ∷ pages) last are top_is rise less = ap₂ (λ (a b : List Row). a ++ b)
    (ap₂ (λ (n : ℕ) (l : List PageRow). since n l) (sym are.0.from) (whole_left s o p.rows (omega (arith, less, rise.0)) (λ is. absurd (omega (arith, is, less, rise.0)))))
    (later_rows s (suc o.number) tails top pages last are.1 top_is rise.1 (omega (arith, less, rise.0)))

first_rows : (tails : List OpenPageView) (top : OpenPageView) (pages : List Page) (last : Page) → ArePagesOf tails pages → IsPageOf top last → Rise 0 (tails ++ top ∷ [])
    → unread_rows_in (begun 0 (cursor_at (first_of tails top))) (tails ++ top ∷ []) (rows_with pages last) ≡ all_rows pages last
first_rows [] top [] last are top_is rise =
    append-nil (since top.from (left_in (begun 0 (cursor_at top)) top last.rows))
    ∙ ap₂ (λ (n : ℕ) (l : List PageRow). since n l) (sym top_is.from) (whole_left (begun 0 (cursor_at top)) top last.rows (omega arith) (λ is. refl))
first_rows [] top (p ∷ pages) last are top_is rise = elim are [ ]
first_rows (o ∷ tails) top [] last are top_is rise = elim are [ ]
first_rows (o ∷ tails) top (p ∷ pages) last are top_is rise = ap₂ (λ (a b : List Row). a ++ b)
    (ap₂ (λ (n : ℕ) (l : List PageRow). since n l) (sym are.0.from) (whole_left (begun 0 (cursor_at o)) o p.rows (omega arith) (λ is. refl)))
    (later_rows (begun 0 (cursor_at o)) (suc o.number) tails top pages last are.1 top_is rise.1 (omega arith))

first_stands : (content : Content) (tails : List OpenPageView) (top : OpenPageView) (rows : List (List PageRow)) → Rise 0 (tails ++ top ∷ []) → AllFirst content (tails ++ top ∷ []) rows
    → CursorStands content (cursor_at (first_of tails top)) (tails ++ top ∷ []) rows
first_stands content [] top [] rise firsts = tt
first_stands content [] top (rows ∷ others) rise firsts = (λ here. firsts.0.first, tt)
first_stands content (o ∷ tails) top [] rise firsts = tt
first_stands content (o ∷ tails) top (rows ∷ others) rise firsts = (λ here. firsts.0.first, none_later content (cursor_at o) (suc o.number) (tails ++ top ∷ []) others rise.1 (omega arith))

module _ (folder : List ℕ) where
  opened_named : (tails : List SealedPage) (views : List PageView) (top : OpenPageView) → top.file ≡ names_in folder (page top.number) → AreNamed folder (tails_opened folder tails views ++ top ∷ [])
  opened_named [] views top is = (is, tt)
  opened_named (t ∷ tails) [] top is = (is, tt)
  opened_named (t ∷ tails) (v ∷ views) top is = (refl, opened_named tails views top is)

  one_count : (number turn first_open : ℕ) (view : PageView) (p : Page) → IsPageOf (page_opened folder number turn first_open view) p → AreNumbered p.least p.rows
      → unread_of (page_opened folder number turn first_open view) ≡ length (since p.from p.rows)
  one_count number turn first_open view p is numbered =
      sym (unread_rows p.from p.least p.rows numbered ∙ (λ i. is.count i - leading (below_number (is.from i) (is.least i) (is.count i))))

  opened_count : (tails : List SealedPage) (views : List PageView) (pages : List Page) (last : Page) (number end count : ℕ) → ArePagesOf (tails_opened folder tails views) pages → Rising number end pages last
      → count ≡ length (since last.from last.rows) → unread_in (tails_opened folder tails views) + count ≡ length (all_rows pages last)
  opened_count [] views [] last number end count are rising is = omega (arith, is)
  opened_count [] views (p ∷ pages) last number end count are rising is = elim are [ ]
  opened_count (t ∷ tails) [] [] last number end count are rising is = omega (arith, is)
  opened_count (t ∷ tails) [] (p ∷ pages) last number end count are rising is = elim are [ ]
  opened_count (t ∷ tails) (v ∷ views) [] last number end count are rising is = elim are [ ]
  opened_count (t ∷ tails) (v ∷ views) (p ∷ pages) last number end count are rising is =
      let here = one_count t.number t.turn t.state.first_open v p are.0 rising.3.numbered in
      let rest = opened_count tails views pages last (suc p.number) (p.least + length p.rows) count are.1 rising.4 is in
      omega (arith, here, rest, length-append (since p.from p.rows) (all_rows pages last))

module _ {S : Type 0} (store : StoreWords S) where
  opened_unread : (folder : List ℕ) (limits : Limits) (o : OpenedQueue) (old new : S) → IsTrue store.tells → (made : OpensAs store (queue_opened folder limits o) o old new)
      → HasUnread store (queue_opened folder limits o) made.queue (all_rows made.queue.tails made.queue.top) new
  opened_unread folder limits o old new tells made =
      let v = queue_opened folder limits o in
      let q = made.queue in
      let is = made.opens.ready.is in
      let named = opened_named folder o.pages.tails.items o.pages.pages.items v.top refl in
      let rise = all_rise 0 0 v.tails v.top q.tails q.top made.opens.tails made.opens.top is in
      let firsts = stand_first store v q new tells made.opens named in
      record {
        opens = made.opens;
        named = named;
        unread = record {
          stands = first_stands (store.seen new) v.tails v.top (page_rows q) rise firsts;
          rows_are = first_rows v.tails v.top q.tails q.top made.opens.tails made.opens.top rise;
          count =
              let last = one_count folder o.state.page o.turn o.state.first_open o.pages.top q.top made.opens.top (rising_top 0 0 q.tails q.top is).numbered in
              opened_count folder o.pages.tails.items o.pages.pages.items q.tails q.top 0 0 (unread_of v.top) made.opens.tails is last;
        };
      }

  pub opened_rows_are_unread : OpenedRowsAreUnread store
  opened_rows_are_unread = record { reads = λ v q rows s tells has. is_read store v q s tells has.opens has.named; opened = opened_unread }

-- ---- rows are acknowledged

module _ (numbers : Numbers) where
  acknowledged_named : (folder : List ℕ) (tails : List OpenPageView) (top : OpenPageView) → AreNamed folder (tails ++ top ∷ []) → AreNamed folder (map (with_acknowledged numbers) tails ++ with_acknowledged numbers top ∷ [])
  acknowledged_named folder [] top named = (named.0, tt)
  acknowledged_named folder (o ∷ tails) top named = (named.0, acknowledged_named folder tails top named.1)

  same_rows : (pages : List Page) (last : Page) → rows_with (map (acknowledged_page numbers) pages) (acknowledged_page numbers last) ≡ rows_with pages last
  same_rows [] last = refl
  same_rows (p ∷ pages) last = ap (λ (l : List (List PageRow)). p.rows ∷ l) (same_rows pages last)

  same_unread : (s : Stand) (tails : List OpenPageView) (top : OpenPageView) (rows : List (List PageRow)) → unread_rows_in s (map (with_acknowledged numbers) tails ++ with_acknowledged numbers top ∷ []) rows ≡ unread_rows_in s (tails ++ top ∷ []) rows
  same_unread s [] top [] = refl
  same_unread s [] top (rows ∷ others) = refl
  same_unread s (o ∷ tails) top [] = refl
  same_unread s (o ∷ tails) top (rows ∷ others) = ap (λ (l : List Row). since o.from (left_in s o rows) ++ l) (same_unread s tails top others)

  one_stands : (o : OpenPageView) (rows : List PageRow) (file : List ℕ) (number place : ℕ) → StandsAt o rows file number place → StandsAt (with_acknowledged numbers o) rows file number place
  one_stands o rows file number place at = record { within = at.within; behind = at.behind; count = at.count; are = at.are }

  same_stands : (content : Content) (c : CursorView) (tails : List OpenPageView) (top : OpenPageView) (rows : List (List PageRow)) → CursorStands content c (tails ++ top ∷ []) rows
      → CursorStands content c (map (with_acknowledged numbers) tails ++ with_acknowledged numbers top ∷ []) rows
  same_stands content c [] top [] stands = tt
  same_stands content c [] top (rows ∷ others) stands = (λ here. one_stands top rows (bytes_of (content top.file)) c.number c.place (stands.0 here), tt)
  same_stands content c (o ∷ tails) top [] stands = tt
  same_stands content c (o ∷ tails) top (rows ∷ others) stands =
      (λ here. one_stands o rows (bytes_of (content o.file)) c.number c.place (stands.0 here), same_stands content c tails top others stands.1)

pub acknowledged_leaves_unread : {S : Type 0} (store : StoreWords S) → AcknowledgedLeavesUnread store
acknowledged_leaves_unread store v q rows numbers s has =
    let same = same_rows numbers q.tails q.top in
    record {
      opens = acknowledged_is_open store v q s numbers has.opens;
      named = acknowledged_named numbers v.folder v.tails v.top has.named;
      unread = record {
        stands = subst (λ (l : List (List PageRow)). CursorStands (store.seen s) v.cursor (all_pages (behind_acknowledge numbers v)) l) (sym same)
            (same_stands numbers (store.seen s) v.cursor v.tails v.top (page_rows q) has.unread.stands);
        rows_are = ap (unread_rows_in (begun 0 v.cursor) (all_pages (behind_acknowledge numbers v))) same ∙ same_unread numbers (begun 0 v.cursor) v.tails v.top (page_rows q) ∙ has.unread.rows_are;
        count = has.unread.count;
      };
    }
