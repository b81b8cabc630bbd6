-- A row that was just written stands in the file of the head page, so that it may be kept.
use Rattle.std.proofs.Common.{◌≡◌, ℕ, suc, ◌+◌, ◌==◌, Bool, true, false, IsTrue, List, [], ◌∷◌, ◌++◌, length, drop, refl, sym, ap, ◌∙◌, subst, arith, append_assoc, append-nil, length-append}
use Rattle.std.proofs.lemmas.Bool.{cond-false, cond-true}
use Rattle.std.proofs.lemmas.Bool.Decides.{nat_tests}
use Rattle.std.proofs.Math.Seq.{drop-append-add}
use Rattle.io_traits.specs.Reads.{bytes_of}
use Rattle.io_traits.specs.declared.stores.Store.{Ghosts as StoreWords}
use Rattle.event_tree.specs.Events.{Ev}
use Rattle.element_code.specs.declared.row.Origin.TheVariants.{Id}
use Rattle.queue_page.specs.Grammar.{row_framed, AreElements, IsElement}
use Rattle.queue_page.specs.declared.row.PageRow.{PageRow}
use Rattle.queue_files.specs.Folders.{head, page, names_in}
use Rattle.queue_files.specs.Kept.{Queue}
use Rattle.queue_files.proofs.Torn.{is_whole}
use Rattle.queue_files.proofs.Whole.{rising_top}
use Rattle.queue_core.specs.Calls.{end_of}
use Rattle.queue_core.specs.Keeping.{kept_row, place_between}
use Rattle.queue_core.specs.Kept.{StandsIn}
use Rattle.queue_core.specs.Opens.{Opens, place_behind}
use Rattle.queue_core.specs.Views.{QueueView}
use Rattle.queue_core.specs.Writing.{behind_append, behind_write, frame_size, made_ready, needs_page, with_written, written}
use Rattle.queue_core.proofs.AppendRuns.{behind_more}

-- ---- the last element of a page

record Last (version place : ℕ) (front : List PageRow) (row : PageRow) (bytes : List ℕ) : Type 0 where
  pub before : List ℕ
  pub frame : List ℕ
  pub parts : bytes ≡ before ++ frame
  pub ends : place_behind place front ≡ place + length before
  pub element : IsElement version (place + length before) row frame

last_element : (version number place : ℕ) (front : List PageRow) (row : PageRow) (bytes : List ℕ) → AreElements version number place (front ++ row ∷ []) bytes → Last version place front row bytes
last_element version number place [] row bytes are =
    let here : place ≡ place + 0 = omega arith in
    record {
      before = [];
      frame = are.0;
      parts = sym are.2 ∙ ap (λ l. are.0 ++ l) are.5 ∙ append-nil are.0;
      ends = here;
      element = subst (λ n. IsElement version n row are.0) here are.4;
    }
last_element version number place (x ∷ front) row bytes are =
    let rest = last_element version (number + 1) x.next front row are.1 are.5 in
    let far : x.next + length rest.before ≡ place + length (are.0 ++ rest.before) = omega (arith, are.4.next, length-append are.0 rest.before) in
    record {
      before = are.0 ++ rest.before;
      frame = rest.frame;
      parts = sym are.2 ∙ ap (λ l. are.0 ++ l) rest.parts ∙ sym (append_assoc are.0 rest.before rest.frame);
      ends = rest.ends ∙ far;
      element = subst (λ n. IsElement version n row rest.frame) far rest.element;
    }

-- ---- the last row of a queue

module _ {S : Type 0} (store : StoreWords S) (w : QueueView) (q : Queue) (s : S) (told : IsTrue store.tells) (opens : Opens store w q s) (front : List PageRow) (row : PageRow) (rows_are : q.top.rows ≡ front ++ row ∷ []) where
  row_next : row.next ≡ w.top.page.state.length
  row_next = sym (opens.top.long ∙ ap (place_behind 1) rows_are ∙ behind_more 1 front row)

  last_stands : (place : ℕ) → place ≡ place_behind 1 front → StandsIn w.top.page.version (bytes_of (store.seen s (names_in w.folder (page w.top.number)))) (record { page = w.top.number; place = place; row = row })
  last_stands place is =
      let held = (opens.ready.held told).top in
      let file = store.seen s (names_in w.folder (page q.top.number)) in
      let whole = is_whole q (store.seen s (names_in w.folder head)) file (rising_top 0 0 q.tails q.top opens.ready.is) held in
      let last = last_element q.top.version q.top.least 1 front row whole.elements (subst (λ rows. AreElements q.top.version q.top.least 1 rows whole.elements) rows_are whole.are) in
      let bytes : bytes_of file ≡ q.top.version ∷ (last.before ++ last.frame) = ap bytes_of held.stands ∙ whole.begins ∙ ap (λ l. q.top.version ∷ l) last.parts in
      let here : place ≡ suc (length last.before) = omega (arith, is, last.ends) in
      let one_more : 1 + length last.before ≡ suc (length last.before) = omega arith in
      let zero_more : length last.before ≡ length last.before + 0 = omega arith in
      let stands : StandsIn q.top.version (q.top.version ∷ (last.before ++ last.frame)) (record { page = w.top.number; place = suc (length last.before); row = row }) = record {
        within = omega (arith, length-append last.before last.frame);
        front = last.frame;
        rest = [];
        parts = ap (λ n. drop n (last.before ++ last.frame)) zero_more ∙ drop-append-add last.before last.frame 0 ∙ sym (append-nil last.frame);
        element = subst (λ n. IsElement q.top.version n row last.frame) one_more last.element;
      } in
      subst (λ n. StandsIn w.top.page.version (bytes_of (store.seen s (names_in w.folder (page n)))) (record { page = w.top.number; place = place; row = row })) opens.top.number
      (subst (λ version. StandsIn version (bytes_of file) (record { page = w.top.number; place = place; row = row })) opens.top.version
      (subst (λ l. StandsIn q.top.version l (record { page = w.top.number; place = place; row = row })) (sym bytes)
      (subst (λ n. StandsIn q.top.version (q.top.version ∷ (last.before ++ last.frame)) (record { page = w.top.number; place = n; row = row })) (sym here) stands)))

  -- as it is kept
  pub kept_stands : (number place : ℕ) (origin : List ℕ) (event : Ev) → place ≡ place_behind 1 front → row.number ≡ number → row.origin ≡ Id origin → row.event ≡ event
      → StandsIn w.top.page.version (bytes_of (store.seen s (names_in w.folder (page w.top.number)))) (kept_row w number place origin event)
  kept_stands number place origin event is number_is origin_is event_is =
      let same : row ≡ (kept_row w number place origin event).row = λ i. record { number = number_is i; origin = origin_is i; event = event_is i; next = row_next i } in
      subst (λ (r : PageRow). StandsIn w.top.page.version (bytes_of (store.seen s (names_in w.folder (page w.top.number)))) (record { page = w.top.number; place = place; row = r })) same (last_stands place is)

-- ---- what a write leaves of what is kept: all

made_keeps : (size : ℕ) (needed : Bool) (v : QueueView) → (behind_append size (made_ready needed v)).cursor.kept ≡ v.cursor.kept
made_keeps size true v = refl
made_keeps size false v = refl

pub write_keeps : (size : ℕ) (v : QueueView) → (behind_write size v).cursor.kept ≡ v.cursor.kept
write_keeps size v = made_keeps size (needs_page size v) v

-- ---- the row that it wrote

module _ {S : Type 0} (store : StoreWords S) (v : QueueView) (q : Queue) (old new : S) (origin : List ℕ) (event : Ev) (told : IsTrue store.tells) (opens : Opens store v q old) where
  by : (needed : Bool) (size : ℕ) → Opens store (behind_append size (made_ready needed v)) (written needed v origin event q) new
      → StandsIn (behind_append size (made_ready needed v)).top.page.version (bytes_of (store.seen new (names_in (behind_append size (made_ready needed v)).folder (page (behind_append size (made_ready needed v)).top.number))))
      (kept_row (behind_append size (made_ready needed v)) (end_of v.top) (place_between v (behind_append size (made_ready needed v))) origin event)
  by false size now =
      let here : (v.top.number == v.top.number) ≡ true = grind (arith, nat_tests) in
      kept_stands store (behind_append size v) (written false v origin event q) new told now q.top.rows (row_framed (end_of v.top) origin event v.top.page.state.length) refl (end_of v.top) (place_between v (behind_append size v)) origin event
      (cond-true _ _ _ here ∙ opens.top.long) refl refl refl
  by true size now =
      let here : (suc v.top.number == v.top.number) ≡ false = grind (arith, nat_tests) in
      kept_stands store (behind_append size (made_ready true v)) (written true v origin event q) new told now [] (row_framed (end_of v.top) origin event 1) refl (end_of v.top) (place_between v (behind_append size (made_ready true v))) origin event
      (cond-false _ _ _ here) refl refl refl

  pub written_stands : Opens store (behind_write (frame_size origin event) v) (with_written v origin event q) new
      → StandsIn (behind_write (frame_size origin event) v).top.page.version (bytes_of (store.seen new (names_in (behind_write (frame_size origin event) v).folder (page (behind_write (frame_size origin event) v).top.number))))
      (kept_row (behind_write (frame_size origin event) v) (end_of v.top) (place_between v (behind_write (frame_size origin event) v)) origin event)
  written_stands now = by (needs_page (frame_size origin event) v) (frame_size origin event) now
