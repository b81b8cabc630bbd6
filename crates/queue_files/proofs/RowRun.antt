-- An element that is appended to the head page of a queue.
use Rattle.std.proofs.Common.{◌≡◌, ◌≢◌, ℕ, suc, ◌+◌, ◌-◌, ◌<◌, ◌^◌, ◌==◌, Bool, true, false, IsTrue, List, [], ◌∷◌, ◌++◌, length, take, drop, Option, Some, Result, Ok, Err, OnOk, if◌then◌else◌, refl, sym, ◌∙◌, ap, subst, arith, append-nil, append_assoc, length-append, length-drop}
use Rattle.std.proofs.lemmas.Bool.{cond-true, cond-false, eq-eqb, eqb-true}
use Rattle.std.proofs.lemmas.List.{take-append-le, drop-append-le}
use Rattle.io_traits.specs.Reads.{bytes_of, file_length}
use Rattle.io_traits.specs.Images.{Image, TornFile, On, at_rest}
use Rattle.io_traits.specs.Moments.{MayLeaveNow, ImagesTell}
use Rattle.io_traits.specs.declared.stores.Store.{Ghosts as StoreWords}
use Rattle.io_traits.proofs.Moments.{by_call}
use Rattle.io_traits.proofs.TailImages.{appended_tail}
use Rattle.io_traits.proofs.TailRuns.{Changes}
use Rattle.queue_page.specs.Grammar.{IsElement, AreElements, IsPage}
use Rattle.queue_page.specs.declared.row.PageRow.{PageRow}
use Rattle.queue_files.specs.Folders.{Role, head, page, checkpoint, Folder, Names, AreApart, folder_in}
use Rattle.queue_files.specs.Kept.{Page, Queue, state_at, Rising, IsQueue, Kept}
use Rattle.queue_files.specs.Resting.{Records, TailHeld, TailsHeld, TopHeld, Held, TailsRest, Rests}
use Rattle.queue_files.specs.Steps.{with_row}
use Rattle.queue_files.proofs.Torn.{more_elements}
use Rattle.queue_files.proofs.Whole.{resting_is_kept}
use Rattle.queue_files.proofs.FolderKeeping.{row_keeps}
use Rattle.queue_files.specs.Marks.{read_in, NoChances}
use Rattle.queue_files.specs.Ready.{Ready, IsNextRow, RowKept, RowReady}

-- ---- a folder in which the head page has another element

module _ (q : Queue) (row : PageRow) (folder other : Folder) (held : Held q folder) (is : IsQueue q) (frame : List ℕ) (number : row.number ≡ q.top.least + length q.top.rows)
    (element : IsElement q.top.version (length (held.top.front ++ held.top.tail)) row frame) (short : length (held.top.front ++ held.top.tail) + length frame < 2 ^ 64)
    (here : other (page q.top.number) ≡ Some (held.top.front ++ (held.top.tail ++ frame))) (there : (role : Role) → role ≢ page q.top.number → other role ≡ folder role) where
  abbrev is_number : Role → ℕ
  is_number head = 0
  is_number (page n) = n
  is_number (checkpoint n) = n

  not_top : (n : ℕ) → n ≢ q.top.number → page n ≢ page q.top.number
  not_top n differs same = differs (ap is_number same)

  tails_with : (number end : ℕ) (tails : List Page) → Rising number end tails q.top → TailsHeld tails folder → TailsHeld tails other
  tails_with number end [] rising held = tt
  tails_with number end (p ∷ tails) rising held = (
    subst (λ o. TailHeld p o (other (page p.number))) (sym (there (checkpoint p.number) (λ same. absurd cc)))
        (subst (λ o. TailHeld p (folder (checkpoint p.number)) o) (sym (there (page p.number) (not_top p.number (λ same. absurd (omega (arith, rising.1, same)))))) held.0),
    tails_with (suc p.number) (p.least + length p.rows) tails rising.4 held.1,
  )

  abbrev top_with : TopHeld (with_row row q) (other head) (other (page q.top.number))
  top_with =
      let t = held.top in
      let marked = t.marked in
      let front : take q.marked (q.top.rows ++ row ∷ []) ≡ take q.marked q.top.rows = take-append-le q.marked q.top.rows (row ∷ []) marked in
      let rest : drop q.marked (q.top.rows ++ row ∷ []) ≡ drop q.marked q.top.rows ++ row ∷ [] = drop-append-le q.marked q.top.rows (row ∷ []) marked in
      let few : length (drop q.marked q.top.rows) ≡ length q.top.rows - q.marked = length-drop q.marked q.top.rows in
      let place : length t.front + length t.tail ≡ length (t.front ++ t.tail) = sym (length-append t.front t.tail) in
      let last : AreElements q.top.version (q.top.least + q.marked + length (drop q.marked q.top.rows)) (length t.front + length t.tail) (row ∷ []) frame =
      (frame, [], append-nil frame, omega (arith, number, few, marked), subst (λ p. IsElement q.top.version p row frame) (sym place) element, refl) in
      record {
        front = t.front;
        tail = t.tail ++ frame;
        stands = here;
        marked = omega (arith, marked, length-append q.top.rows (row ∷ []));
        is_page = subst (IsPage t.front q.top.version q.top.least) (sym front) t.is_page;
        behind = subst (λ l. AreElements q.top.version (q.top.least + q.marked) (length t.front) l (t.tail ++ frame)) (sym rest)
            (more_elements q.top.version (q.top.least + q.marked) (length t.front) (drop q.marked q.top.rows) (row ∷ []) t.tail frame t.behind last);
        short = omega (arith, short, length-append t.front t.tail, length-append t.front (t.tail ++ frame), length-append t.tail frame);
        records = subst (λ o. Records (bytes_of o) q.top.turn (state_at q.top q.top.from (take q.marked (q.top.rows ++ row ∷ [])) (length t.front))) (sym (there head (λ same. absurd cc)))
            (subst (λ l. Records (bytes_of (folder head)) q.top.turn (state_at q.top q.top.from l (length t.front))) (sym front) t.records);
      }

  abbrev held_with : Held (with_row row q) other
  held_with = record {
    tails = tails_with 0 0 q.tails is held.tails;
    gone = λ n less none. there (page n) (not_top n (λ same. absurd (omega (arith, less, same)))) ∙ held.gone n less none;
    top = top_with;
    no_pages = λ n above fits. there (page n) (not_top n (λ same. absurd (omega (arith, above, same)))) ∙ held.no_pages n above fits;
    no_checkpoints = λ n above fits. there (checkpoint n) (λ same. absurd cc) ∙ held.no_checkpoints n above fits;
  }

  -- an image in which the element is appended, be it whole or torn
  module _ (names : Names) (apart : AreApart names) (d i : Image) (rest : Rests q names folder held d) (on : On (names (page q.top.number)) (TornFile (length (held.top.front ++ held.top.tail)) frame) d i) where
    still : (role : Role) → role ≢ page q.top.number → i (names role) ≡ d (names role)
    still role differs = on.there (names role) (λ same. differs (apart role (page q.top.number) same))

    tails_still : (tails : List Page) → TailsRest tails names folder d → TailsRest tails names other i
    tails_still [] rest = tt
    tails_still (p ∷ tails) rest =
        (still (checkpoint p.number) (λ same. absurd cc) ∙ rest.0 ∙ ap at_rest (sym (there (checkpoint p.number) (λ same. absurd cc))), tails_still tails rest.1)

    rests_with : Rests (with_row row q) names other held_with i
    rests_with = record {
      top_slot = still head (λ same. absurd cc) ∙ rest.top_slot ∙ ap at_rest (sym (there head (λ same. absurd cc)));
      tails = tails_still q.tails rest.tails;
      pages = λ n differs. still (page n) (not_top n differs) ∙ rest.pages n differs ∙ ap at_rest (sym (there (page n) (not_top n differs)));
      top_page = appended_tail held.top.front held.top.tail frame (length (held.top.front ++ held.top.tail)) (d (names (page q.top.number))) (i (names (page q.top.number)))
          (length-append held.top.front held.top.tail) rest.top_page on.here;
    }

-- the folder with other bytes in one page
abbrev is_page_of : ℕ → Role → Bool
is_page_of n head = false
is_page_of n (page m) = m == n
is_page_of n (checkpoint m) = false

abbrev with_page : ℕ → List ℕ → Folder → Folder
with_page n bytes folder role = if is_page_of n role then Some bytes else folder role

page_here : (n : ℕ) (bytes : List ℕ) (folder : Folder) → with_page n bytes folder (page n) ≡ Some bytes
page_here n bytes folder = cond-true (n == n) (Some bytes) (folder (page n)) (eq-eqb n n refl)

page_there : (n : ℕ) (bytes : List ℕ) (folder : Folder) (role : Role) → role ≢ page n → with_page n bytes folder role ≡ folder role
page_there n bytes folder head differs = refl
page_there n bytes folder (checkpoint m) differs = refl
page_there n bytes folder (page m) differs = at (m == n) refl
  where
    at : (b : Bool) → (m == n) ≡ b → with_page n bytes folder (page m) ≡ folder (page m)
    at true is = absurd (differs (ap page (eqb-true m n is)))
    at false is = cond-false (m == n) (Some bytes) (folder (page m)) is

module _ {S : Type 0} (store : StoreWords S) (tell : ImagesTell store) (name frame : List ℕ) (old new : S) (change : Changes store old new name (TornFile (file_length (store.seen old name)) frame)) where
  module _ (names : Names) (q : Queue) (row : PageRow) (apart : AreApart names) (ready : Ready store names q old) (next : IsNextRow store names q row name frame old) where
    abbrev before : Folder
    before = read_in names (store.seen old)

    module _ (told : IsTrue store.tells) where
      abbrev held_now : Held q before
      held_now = ready.held told

      abbrev all : List ℕ
      all = held_now.top.front ++ held_now.top.tail

      long : file_length (store.seen old name) ≡ length all
      long = ap (λ n. file_length (store.seen old n)) next.is_name ∙ ap file_length held_now.top.stands

      element : IsElement q.top.version (length all) row frame
      element = subst (λ p. IsElement q.top.version p row frame) long (next.element told)

      short : length all + length frame < 2 ^ 64
      short = subst (λ n. n + length frame < 2 ^ 64) long (next.short told)

      -- any folder in which the head page has the element
      module _ (other : Folder) (here : other (page q.top.number) ≡ Some (held_now.top.front ++ (held_now.top.tail ++ frame))) (there : (role : Role) → role ≢ page q.top.number → other role ≡ before role) where
        abbrev row_held : Held (with_row row q) other
        row_held = held_with q row before other held_now ready.is frame next.number element short here there

        row_rests : (i : Image) → MayLeaveNow store new i → Rests (with_row row q) names other row_held i
        row_rests i left =
            let d = change.images i left in
            let on : On (names (page q.top.number)) (TornFile (length all) frame) d.0 i =
            subst (λ n. On (names (page q.top.number)) (TornFile n frame) d.0 i) long (subst (λ n. On n (TornFile (file_length (store.seen old name)) frame) d.0 i) next.is_name d.2) in
            rests_with q row before other held_now ready.is frame next.number element short here there names apart d.0 i (ready.images told d.0 d.1) on

    kept_now : (i : Image) → MayLeaveNow store new i → NoChances names i → Kept (with_row row q) (folder_in names i)
    kept_now i left chances =
        let told = tell new (store.moment new) i left in
        let bytes = (ready.held told).top.front ++ ((ready.held told).top.tail ++ frame) in
        let other = with_page q.top.number bytes before in
        let here = page_here q.top.number bytes before in
        let there = page_there q.top.number bytes before in
        resting_is_kept (with_row row q) names other i next.is_queue (row_held told other here there) (row_rests told other here there i left) (chances.elements (page q.top.number))

    kept_before : (i : Image) → MayLeaveNow store old i → NoChances names i → Kept (with_row row q) (folder_in names i)
    kept_before i left chances =
        let told = tell old (store.moment old) i left in
        row_keeps q row (folder_in names i) (resting_is_kept q names before i ready.is (ready.held told) (ready.images told i left) (chances.elements (page q.top.number)))

    ready_now : (IsTrue store.tells → store.seen new name ≡ Some (bytes_of (store.seen old name) ++ frame)) → Ready store names (with_row row q) new
    ready_now wrote = record {
      is = next.is_queue;
      held = λ told. row_held told (read_in names (store.seen new)) (here told) (there told);
      images = λ told i left. row_rests told (read_in names (store.seen new)) (here told) (there told) i left;
    }
      where
        here : (told : IsTrue store.tells) → store.seen new (names (page q.top.number)) ≡ Some ((ready.held told).top.front ++ ((ready.held told).top.tail ++ frame))
        here told =
            let t = (ready.held told).top in
            subst (λ n. store.seen new n ≡ Some (bytes_of (store.seen old n) ++ frame)) next.is_name (wrote told)
            ∙ ap (λ (o : Option (List ℕ)). Some (bytes_of o ++ frame)) t.stands ∙ ap Some (append_assoc t.front t.tail frame)

        there : IsTrue store.tells → (role : Role) → role ≢ page q.top.number → store.seen new (names role) ≡ store.seen old (names role)
        there told role differs = change.beside told (names role) (λ same. differs (apart role (page q.top.number) (same ∙ next.is_name)))

  pub row_kept : RowKept store name frame old new
  row_kept names q row apart ready next = by_call store old new (λ i. NoChances names i → Kept (with_row row q) (folder_in names i)) change.time
      (λ i left chances. kept_before names q row apart ready next i left chances)
      (λ i left chances. kept_now names q row apart ready next i left chances)

  pub row_ready : {A E : Type 0} (result : Result A E) → OnOk result (IsTrue store.tells → store.seen new name ≡ Some (bytes_of (store.seen old name) ++ frame)) → OnOk result (RowReady store name frame old new)
  row_ready (Ok x) wrote = λ names q row apart ready next. ready_now names q row apart ready next wrote
  row_ready (Err e) wrote = tt
