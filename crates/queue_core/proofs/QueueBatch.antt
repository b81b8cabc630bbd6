-- A batch takes the first unread rows of a queue that is open.
use Rattle.std.proofs.Common.{◌≡◌, inl, inr, ℕ, zero, suc, ◌+◌, ◌-◌, ◌==◌, List, [], ◌∷◌, ◌++◌, length, map, drop, Option, Some, None, Ok, refl, sym, ap, ◌∙◌, subst, arith, append-nil, length-append, slice_get, ◌≤◌}
use Rattle.std.proofs.lemmas.Bool.{cond-true, cond-false, cases_Bool}
use Rattle.std.proofs.lemmas.Bool.Decides.{nat_tests}
use Rattle.std.proofs.lemmas.List.{length-map, take_at}
use Rattle.io_traits.specs.Folders.{Content}
use Rattle.io_traits.specs.Reads.{bytes_of, file_length}
use Rattle.queue_page.specs.Blocks.{left_of}
use Rattle.queue_page.specs.Grammar.{AreElements, IsPage}
use Rattle.queue_page.specs.declared.row.PageRow.{PageRow}
use Rattle.queue_files.specs.Folders.{head, page, checkpoint, names_in}
use Rattle.queue_files.specs.Found.{Row}
use Rattle.queue_files.specs.Kept.{Page, Queue, IsSound, Rising}
use Rattle.queue_files.specs.Resting.{TailHeld, TailsHeld, TopHeld}
use Rattle.queue_files.proofs.Torn.{is_whole}
use Rattle.queue_files.proofs.Whole.{rising_top}
use Rattle.queue_files.specs.Marks.{read_in}
use Rattle.queue_core.specs.NextBatch.{StandsAt, RowsStand, AllStand, Rise, unread_rows_in}
use Rattle.queue_core.specs.Opens.{AreLong, ArePagesOf, IsPageOf}
use Rattle.queue_core.specs.QueueBatches.{AreNamed, AreUnread, CursorStands, IsRead, page_rows}
use Rattle.queue_core.specs.Taking.{Stand, all_pages, batch_bytes, batch_from, batch_of, begun, behind_take, rows_taken}
use Rattle.queue_core.specs.Unread.{told, taken}
use Rattle.queue_core.specs.Views.{OpenPageView, CursorView, QueueView}
use Rattle.queue_core.specs.declared.batch.Batch.{Batch}
use Rattle.queue_core.specs.declared.page_rows.QueueRow.{QueueRow}
use Rattle.queue_core.specs.declared.page_rows.BatchReader.{BatchReader}
use Rattle.queue_core.proofs.MarkRuns.{page_length}
use Rattle.queue_core.proofs.NextBatches.{BatchReads, batch_got, batch_reads}

-- ---- the rows of a page stand in its file

first_stands : (o : OpenPageView) (p : Page) (bytes rest : List ℕ) → IsPageOf o p → IsPage bytes p.version p.least p.rows → StandsAt o p.rows (bytes ++ rest) o.page.state.least 1
first_stands o p bytes rest is is_page =
    let file = bytes ++ rest in
    let elements = is_page.elements in
    let are = is_page.are in
    let none : 0 ≡ o.page.state.least - o.page.state.least = omega arith in
    let long : length bytes ≡ o.page.state.length = page_length p.version p.least p.rows bytes is_page ∙ sym is.long in
    let size : length bytes ≡ suc (length elements) = ap length is_page.begins in
    let left : elements ≡ left_of file 1 o.page.state.length = ap (drop 1) (sym is_page.begins) ∙ ap (drop 1) (sym (take_at bytes rest o.page.state.length long)) in
    record {
      within = omega (arith, size, long);
      behind = omega arith;
      count = ap (λ n. o.page.state.least + length (drop n p.rows)) (sym none) ∙ ap (λ n. o.page.state.least + n) is.count;
      are = subst (λ n. AreElements o.page.version o.page.state.least 1 (drop n p.rows) (left_of file 1 o.page.state.length)) none
          (subst (λ (l : List ℕ). AreElements o.page.version o.page.state.least 1 p.rows l) left (subst (λ n. AreElements n o.page.state.least 1 p.rows elements) is.version (subst (λ n. AreElements p.version n 1 p.rows elements) is.least are)));
    }

module _ (folder : List ℕ) (content : Content) where
  -- the file of a page, by its name
  file_is : (o : OpenPageView) (p : Page) (bytes : List ℕ) → IsPageOf o p → o.file ≡ names_in folder (page o.number) → content (names_in folder (page p.number)) ≡ Some bytes → bytes_of (content o.file) ≡ bytes
  file_is o p bytes is named stands = ap (λ (name : List ℕ). bytes_of (content name)) (named ∙ ap (λ n. names_in folder (page n)) (sym is.number)) ∙ ap bytes_of stands

  pub file_long : (o : OpenPageView) → o.file ≡ names_in folder (page o.number) → o.page.state.length ≤ file_length (content (names_in folder (page o.number))) → o.page.state.length ≤ length (bytes_of (content o.file))
  file_long o named long = omega (arith, long, ap (λ (name : List ℕ). file_length (content name)) named)

  pub tail_first : (o : OpenPageView) (p : Page) (slots : Option (List ℕ)) → IsPageOf o p → o.file ≡ names_in folder (page o.number) → TailHeld p slots (content (names_in folder (page p.number)))
      → StandsAt o p.rows (bytes_of (content o.file)) o.page.state.least 1
  tail_first o p slots is named held =
      subst (λ (file : List ℕ). StandsAt o p.rows file o.page.state.least 1) (sym (file_is o p (held.bytes ++ held.rest) is named held.stands)) (first_stands o p held.bytes held.rest is held.is_page)

  pub top_first : (o : OpenPageView) (q : Queue) (slots : Option (List ℕ)) → IsSound q.top → IsPageOf o q.top → o.file ≡ names_in folder (page o.number) → TopHeld q slots (content (names_in folder (page q.top.number)))
      → StandsAt o q.top.rows (bytes_of (content o.file)) o.page.state.least 1
  top_first o q slots sound is named held =
      let all = held.front ++ held.tail in
      let file : bytes_of (content o.file) ≡ all ++ [] = file_is o q.top all is named held.stands ∙ sym (append-nil all) in
      subst (λ (file : List ℕ). StandsAt o q.top.rows file o.page.state.least 1) (sym file) (first_stands o q.top all [] is (is_whole q slots (content (names_in folder (page q.top.number))) sound held))

  page_stands : (s : Stand) (o : OpenPageView) (rows : List PageRow) → StandsAt o rows (bytes_of (content o.file)) o.page.state.least 1 → o.page.state.length ≤ length (bytes_of (content o.file))
      → (s.page ≡ o.number → StandsAt o rows (bytes_of (content o.file)) s.reading.number s.reading.place) → RowsStand content s o rows
  page_stands s o rows first long here = record { long = long; first = first; here = here }

  all_stand : (most : ℕ) (c : CursorView) (tails : List OpenPageView) (top : OpenPageView) (q : Queue) (pages : List Page) → ArePagesOf tails pages → IsPageOf top q.top → TailsHeld pages (read_in (names_in folder) content)
      → StandsAt top q.top.rows (bytes_of (content top.file)) top.page.state.least 1 → AreLong folder tails content → top.page.state.length ≤ file_length (content (names_in folder (page top.number)))
      → AreNamed folder (tails ++ top ∷ []) → CursorStands content c (tails ++ top ∷ []) (map (λ (p : Page). p.rows) pages ++ q.top.rows ∷ [])
      → AllStand content (begun most c) (tails ++ top ∷ []) (map (λ (p : Page). p.rows) pages ++ q.top.rows ∷ [])
  all_stand most c [] top q [] are top_is held top_first long top_long named stands = (page_stands (begun most c) top q.top.rows top_first (file_long top named.0 top_long) stands.0, tt)
  all_stand most c [] top q (p ∷ pages) are top_is held top_first long top_long named stands = elim are [ ]
  all_stand most c (o ∷ tails) top q [] are top_is held top_first long top_long named stands = elim are [ ]
  all_stand most c (o ∷ tails) top q (p ∷ pages) are top_is held top_first long top_long named stands = (
    page_stands (begun most c) o p.rows (tail_first o p (content (names_in folder (checkpoint p.number))) are.0 named.0 held.0) (file_long o named.0 long.0) stands.0,
    all_stand most c tails top q pages are.1 top_is held.1 top_first long.1 top_long named.1 stands.1,
  )

  -- the next row stands behind those that were read
  cursor_stands : (s : Stand) (c : CursorView) (pages : List OpenPageView) (rows : List (List PageRow)) → c.page ≡ s.page → c.number ≡ s.reading.number → c.place ≡ s.reading.place → AllStand content s pages rows → CursorStands content c pages rows
  cursor_stands s c [] rows page_is number_is place_is stands = tt
  cursor_stands s c (o ∷ pages) [] page_is number_is place_is stands = tt
  cursor_stands s c (o ∷ pages) (rows ∷ others) page_is number_is place_is stands = (
    λ here. subst (λ n. StandsAt o rows (bytes_of (content o.file)) n c.place) (sym number_is) (subst (λ n. StandsAt o rows (bytes_of (content o.file)) s.reading.number n) (sym place_is) (stands.0.here (sym page_is ∙ here))),
    cursor_stands s c pages others page_is number_is place_is stands.1,
  )

-- ---- the pages rise

pub all_rise : (from end : ℕ) (tails : List OpenPageView) (top : OpenPageView) (pages : List Page) (last : Page) → ArePagesOf tails pages → IsPageOf top last → Rising from end pages last → Rise from (tails ++ top ∷ [])
all_rise from end [] top [] last are top_is rising = (omega (arith, rising.0, top_is.number), tt)
all_rise from end [] top (p ∷ pages) last are top_is rising = elim are [ ]
all_rise from end (o ∷ tails) top [] last are top_is rising = elim are [ ]
all_rise from end (o ∷ tails) top (p ∷ pages) last are top_is rising =
    (omega (arith, rising.0, are.0.number), subst (λ n. Rise (suc n) (tails ++ top ∷ [])) are.0.number (all_rise (suc p.number) (p.least + length p.rows) tails top pages last are.1 top_is rising.4))

-- ---- the batch

some_none : {b : Batch} → ◌≡◌ {A = Option Batch} (Some b) None → ⊥
some_none is = absurd cc

no_batch : (r : BatchReader) (rows : List QueueRow) → batch_from r (slice_get rows 0) ≡ None → rows ≡ []
no_batch r [] none = refl
no_batch r (x ∷ rows) none = absurd (some_none none)

none_unread : (most : ℕ) (rows : List Row) (got : List QueueRow) → 1 ≤ most → map told got ≡ taken batch_bytes most None rows → got ≡ [] → rows ≡ []
none_unread most [] got some first none = refl
none_unread zero (row ∷ rows) got some first none = absurd (omega (arith, some))
none_unread (suc most) (row ∷ rows) got some first none = absurd (omega (arith, ap length first, ap length none, length-map got told))

no_rows : (rows : List Row) → length rows ≡ 0 → rows ≡ []
no_rows [] none = refl
no_rows (row ∷ rows) none = absurd (omega (arith, none))

module _ (most : ℕ) (content : Content) (v : QueueView) (q : Queue) (rows : List Row) (read : IsRead content v q) (unread : AreUnread content v q rows) where
  start_stands : AllStand content (begun most v.cursor) (all_pages v) (page_rows q)
  start_stands =
      let top = top_first v.folder content v.top q (content (names_in v.folder head)) (rising_top 0 0 q.tails q.top read.is) read.top (last_named v.tails read.named) read.held.top in
      all_stand v.folder content most v.cursor v.tails v.top q q.tails read.tails read.top read.held.tails top read.files.tails (omega (arith, read.files.top)) read.named unread.stands
    where
      last_named : (tails : List OpenPageView) → AreNamed v.folder (tails ++ v.top ∷ []) → v.top.file ≡ names_in v.folder (page v.top.number)
      last_named [] named = named.0
      last_named (o ∷ tails) named = last_named tails named.1

  reads : BatchReads content 0 (all_pages v) (page_rows q) (begun most v.cursor)
  reads = batch_reads content 0 (all_pages v) (page_rows q) (begun most v.cursor) (all_rise 0 0 v.tails v.top q.tails q.top read.tails read.top read.is) start_stands

  pub record Takes : Type 0 where
    pub s : Stand
    pub rest : List Row
    pub is : rows_taken most content v ≡ Ok s
    pub first : map told s.reading.rows ≡ taken batch_bytes most None rows
    pub all : map told s.reading.rows ++ rest ≡ rows
    pub left : (held : CursorView) → AreUnread content (behind_take held s v) q rest

  left_unread : (s : Stand) (rest : List Row) → AllStand content s (all_pages v) (page_rows q) → unread_rows_in s (all_pages v) (page_rows q) ≡ rest → map told s.reading.rows ++ rest ≡ rows → (held : CursorView)
      → AreUnread content (behind_take held s v) q rest
  left_unread s rest stands is all held = record {
    stands = cursor_stands v.folder content s (behind_take held s v).cursor (all_pages v) (page_rows q) refl refl refl stands;
    rows_are = is;
    count = omega (arith, unread.count, ap length all, length-append (map told s.reading.rows) rest, length-map s.reading.rows told);
  }

  pub none_left : (s : Stand) → map told s.reading.rows ≡ taken batch_bytes most None rows → 1 ≤ most → batch_of s.reading ≡ None → rows ≡ []
  none_left s first some none = none_unread most rows s.reading.rows some first (no_batch s.reading s.reading.rows none)

  none_of : (n : ℕ) → taken batch_bytes n None [] ≡ []
  none_of zero = refl
  none_of (suc n) = refl

  pub takes : Takes
  takes = elim (cases_Bool (v.unread == 0)) [
    | inl none ↦
        let empty : rows ≡ [] = no_rows rows (grind (arith, nat_tests, none, unread.count)) in
        record {
          s = begun most v.cursor;
          rest = rows;
          is = cond-true _ _ _ none;
          first = sym (none_of most) ∙ ap (taken batch_bytes most None) (sym empty);
          all = refl;
          left = left_unread (begun most v.cursor) rows start_stands unread.rows_are refl;
        }
    | inr some ↦
        let room : most - 0 ≡ most = omega arith in
        let got : map told reads.next.reading.rows ++ unread_rows_in reads.next (all_pages v) (page_rows q) ≡ rows = reads.given ∙ unread.rows_are in
        record {
          s = reads.next;
          rest = unread_rows_in reads.next (all_pages v) (page_rows q);
          is = cond-false _ _ _ some ∙ reads.is;
          first = batch_got content (all_pages v) (page_rows q) (begun most v.cursor) reads.next refl reads.goes_on ∙ ap (λ n. taken batch_bytes n None (unread_rows_in (begun most v.cursor) (all_pages v) (page_rows q))) room ∙ ap (taken batch_bytes most None) unread.rows_are;
          all = got;
          left = left_unread reads.next (unread_rows_in reads.next (all_pages v) (page_rows q)) reads.stands refl got;
        }
  ]
