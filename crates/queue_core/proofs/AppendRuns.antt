-- A row that is appended to the head page of an open queue.
use Rattle.std.proofs.Common.{◌≡◌, ◌≢◌, ◌⊎◌, ⊎_elim, inl, inr, ℕ, suc, ◌+◌, ◌-◌, ◌<◌, ◌≤◌, ◌^◌, Bool, false, IsTrue, List, [], ◌∷◌, ◌++◌, length, take, drop, Option, Some, refl, sym, ◌∙◌, ap, subst, arith, length-append, length-take, length-drop}
use Rattle.std.proofs.lemmas.Bool.{cases_eq}
use Rattle.std.proofs.lemmas.List.{take-append-le, drop-append-le}
use Rattle.io_traits.specs.Folders.{Content}
use Rattle.io_traits.specs.Reads.{bytes_of, file_length}
use Rattle.io_traits.specs.Moments.{ReadsBeside}
use Rattle.io_traits.specs.declared.stores.Store.{Ghosts as StoreWords}
use Rattle.queue_page.specs.Blocks.{IsPart}
use Rattle.queue_page.specs.Grammar.{IsElement}
use Rattle.queue_page.specs.Views.{PageBufferView}
use Rattle.queue_page.specs.declared.row.PageRow.{PageRow}
use Rattle.queue_files.specs.Folders.{head, page, checkpoint, names_in}
use Rattle.queue_files.specs.Kept.{Page, Queue, AreNumbered, IsSound, Rising}
use Rattle.queue_files.specs.Steps.{page_with, with_row}
use Rattle.queue_files.proofs.ApartNames.{names_apart}
use Rattle.queue_files.proofs.Whole.{rising_top}
use Rattle.queue_files.specs.Ready.{Keeps, IsNextRow, RowKept, RowReady}
use Rattle.queue_files.specs.Writes.{NoneShorter}
use Rattle.queue_files.proofs.TornMarks.{number_of}
use Rattle.queue_core.specs.Calls.{end_of}
use Rattle.queue_core.specs.Opens.{AreLong, Climb, HasPage, IsReady, Opens, TailsSlotted, place_behind}
use Rattle.queue_core.specs.Kept.{AreKept}
use Rattle.queue_core.specs.Views.{OpenPageView, QueueView}
use Rattle.queue_core.specs.Writing.{behind_append}
use Rattle.queue_core.proofs.BitLists.{leads_still}
use Rattle.queue_core.proofs.KeptLemmas.{kept_grown}

-- ---- the queue with its row is one that can be

numbered_with : (number : ℕ) (rows : List PageRow) (row : PageRow) → AreNumbered number rows → row.number ≡ number + length rows → AreNumbered number (rows ++ row ∷ [])
numbered_with number [] row are is = (omega (arith, is), tt)
numbered_with number (r ∷ rows) row are is = (are.0, numbered_with (suc number) rows row are.1 (omega (arith, is)))

sound_with : (p : Page) (row : PageRow) → IsSound p → p.from ≤ p.least + length p.rows → row.number ≡ p.least + length p.rows → p.least + length p.rows < 2 ^ 63 - 1 → length p.rows < 2 ^ 32 - 1
    → IsSound (page_with row p)
sound_with p row s recorded number fits few = record {
  number = s.number;
  turn = s.turn;
  least = s.least;
  numbers = omega (arith, fits, length-append p.rows (row ∷ []));
  count = omega (arith, few, length-append p.rows (row ∷ []));
  numbered = numbered_with p.least p.rows row s.numbered number;
  each = omega (arith, s.each, length-append p.rows (row ∷ []), length-append p.acknowledged (false ∷ []));
  from_fits = s.from_fits;
  from = ⊎_elim (λ le. inl (omega (arith, le, leads_still p.acknowledged))) (λ all. inl (omega (arith, all, recorded, leads_still p.acknowledged))) s.from;
}

rising_with : (number end : ℕ) (tails : List Page) (top : Page) (row : PageRow) → Rising number end tails top → IsSound (page_with row top) → Rising number end tails (page_with row top)
rising_with number end [] top row rising sound = (rising.0, rising.1, sound)
rising_with number end (p ∷ tails) top row rising sound = (rising.0, rising.1, rising.2, rising.3, rising_with (suc p.number) (p.least + length p.rows) tails top row rising.4 sound)

-- ---- files

-- a part of a file is one of the file with more bytes
pub part_grown : (file more : List ℕ) (block : PageBufferView) → IsPart file block → IsPart (file ++ more) block
part_grown file more block is = by block.bytes is
  where
    by : (bytes : List ℕ) → bytes ≡ take (length bytes) (drop block.place file) → bytes ≡ take (length bytes) (drop block.place (file ++ more))
    by [] part = refl
    by (b ∷ bytes) part =
        let n = suc (length bytes) in
        let enough : n ≤ length (drop block.place file) = omega (arith, ap length part, length-take n (drop block.place file)) in
        let within : block.place ≤ length file = omega (arith, enough, length-drop block.place file) in
        part ∙ sym (ap (take n) (drop-append-le block.place file more within) ∙ take-append-le n (drop block.place file) more enough)

pub climb_order : (from end : ℕ) (tails : List OpenPageView) → Climb from end tails → from ≤ end
climb_order from end [] climb = climb
climb_order from end (o ∷ tails) climb = omega (arith, climb.0, climb_order (suc o.number) end tails climb.1)

-- a page ends behind its last row
pub behind_more : (place : ℕ) (rows : List PageRow) (row : PageRow) → place_behind place (rows ++ row ∷ []) ≡ row.next
behind_more place [] row = refl
behind_more place (r ∷ rows) row = behind_more r.next rows row

-- pages below a number have the same files
module _ (folder : List ℕ) (old new : Content) (end : ℕ) (same : (n : ℕ) → n < end → new (names_in folder (page n)) ≡ old (names_in folder (page n))) where
  pub long_still : (from : ℕ) (tails : List OpenPageView) → Climb from end tails → AreLong folder tails old → AreLong folder tails new
  long_still from [] climb long = tt
  long_still from (o ∷ tails) climb long =
      (omega (arith, long.0, ap file_length (same o.number (omega (arith, climb_order (suc o.number) end tails climb.1)))), long_still (suc o.number) tails climb.1 long.1)

-- checkpoints become no shorter
pub slotted_still : (folder : List ℕ) (old new : Content) → NoneShorter old new → (tails : List OpenPageView) → TailsSlotted folder tails old → TailsSlotted folder tails new
slotted_still folder old new longer [] slotted = tt
slotted_still folder old new longer (o ∷ tails) slotted = (omega (arith, slotted.0, longer (names_in folder (checkpoint o.number))), slotted_still folder old new longer tails slotted.1)

-- ---- the call

module _ {S : Type 0} (store : StoreWords S) (v : QueueView) (frame : List ℕ) (old new : S) where
  pub ready_with : (IsTrue store.tells → NoneShorter (store.seen old) (store.seen new)) → IsReady store v old → IsReady store (behind_append (length frame) v) new
  ready_with longer ready told =
      let slotted = ready told in
      record {
        climb = slotted.climb;
        tails = slotted_still v.folder (store.seen old) (store.seen new) (longer told) v.tails slotted.tails;
        top = omega (arith, slotted.top, longer told (names_in v.folder head));
      }

  module _ (name : List ℕ) (named : name ≡ names_in v.folder (page v.top.number)) (row : PageRow) (number : row.number ≡ end_of v.top) (element : IsElement v.top.page.version v.top.page.state.length row frame)
      (fits : end_of v.top < 2 ^ 63 - 1) (few : v.top.page.state.count < 2 ^ 32 - 1) (recorded : v.top.from ≤ end_of v.top) (short : v.top.page.state.length + length frame < 2 ^ 64)
      (q : Queue) (opens : Opens store v q old) where
    file_long : IsTrue store.tells → file_length (store.seen old name) ≡ v.top.page.state.length
    file_long told = ap (λ n. file_length (store.seen old n)) named ∙ (opens.files told).top

    is_next : IsNextRow store (names_in v.folder) q row name frame old
    is_next =
        let t = opens.top in
        let ends : q.top.least + length q.top.rows ≡ end_of v.top = omega (arith, t.least, t.count) in
        record {
          is_name = named ∙ ap (λ n. names_in v.folder (page n)) (sym t.number);
          is_queue = rising_with 0 0 q.tails q.top row opens.ready.is
              (sound_with q.top row (rising_top 0 0 q.tails q.top opens.ready.is) (omega (arith, t.from, ends, recorded)) (number ∙ sym ends) (omega (arith, ends, fits)) (omega (arith, t.count, few)));
          number = number ∙ sym ends;
          element = λ told. subst (λ (n : ℕ). IsElement q.top.version n row frame) (sym (file_long told)) (subst (λ (n : ℕ). IsElement n v.top.page.state.length row frame) (sym t.version) element);
          short = λ told. omega (arith, file_long told, short);
        }

    pub keeps_row : RowKept store name frame old new → Keeps store (names_in v.folder) (with_row row q) old new
    keeps_row keeps = keeps (names_in v.folder) q row (names_apart v.folder) opens.ready is_next

    module _ (is_ready : IsReady store v old) (beside : ReadsBeside store (λ n. n ≡ name) old new) (written : IsTrue store.tells → store.seen new name ≡ Some (bytes_of (store.seen old name) ++ frame)) where
      other_page : IsTrue store.tells → (n : ℕ) → n ≢ v.top.number → store.seen new (names_in v.folder (page n)) ≡ store.seen old (names_in v.folder (page n))
      other_page told n differs = beside told (names_in v.folder (page n)) (λ mine. differs (ap number_of (names_apart v.folder (page n) (page v.top.number) (mine ∙ named))))

      top_file : IsTrue store.tells → store.seen new (names_in v.folder (page v.top.number)) ≡ Some (bytes_of (store.seen old (names_in v.folder (page v.top.number))) ++ frame)
      top_file told = subst (λ n. store.seen new n ≡ Some (bytes_of (store.seen old n) ++ frame)) named (written told)

      part_now : (told : IsTrue store.tells) → HasPage v.cursor.page v → IsPart (bytes_of (store.seen new (names_in v.folder (page v.cursor.page)))) v.cursor.block
      part_now told has = at (cases_eq v.cursor.page v.top.number)
        where
          at : (v.cursor.page ≡ v.top.number) ⊎ (v.cursor.page ≢ v.top.number) → IsPart (bytes_of (store.seen new (names_in v.folder (page v.cursor.page)))) v.cursor.block
          at (inl is) =
              let now = ap (λ n. store.seen new (names_in v.folder (page n))) is ∙ top_file told ∙ ap (λ n. Some (bytes_of (store.seen old (names_in v.folder (page n))) ++ frame)) (sym is) in
              subst (λ (f : Option (List ℕ)). IsPart (bytes_of f) v.cursor.block) (sym now)
              (part_grown (bytes_of (store.seen old (names_in v.folder (page v.cursor.page)))) frame v.cursor.block ((opens.files told).part has))
          at (inr differs) = subst (λ (f : Option (List ℕ)). IsPart (bytes_of f) v.cursor.block) (sym (other_page told v.cursor.page differs)) ((opens.files told).part has)

      pub opens_row : RowReady store name frame old new → Opens store (behind_append (length frame) v) (with_row row q) new
      opens_row ready =
          let t = opens.top in
          record {
            ready = ready (names_in v.folder) q row (names_apart v.folder) opens.ready is_next;
            tails = opens.tails;
            top = record {
              number = t.number;
              version = t.version;
              least = t.least;
              count = omega (arith, t.count, length-append q.top.rows (row ∷ []));
              acknowledged = ap (λ (l : List Bool). l ++ false ∷ []) t.acknowledged;
              from = t.from;
              turn = t.turn;
              long = sym element.next ∙ sym (behind_more 1 q.top.rows row);
            };
            files = λ told. record {
              tails = long_still v.folder (store.seen old) (store.seen new) v.top.number (λ n less. other_page told n (λ is. omega (arith, less, is))) 0 v.tails (is_ready told).climb (opens.files told).tails;
              top = ap file_length (top_file told) ∙ length-append (bytes_of (store.seen old (names_in v.folder (page v.top.number)))) frame ∙ ap (λ n. n + length frame) (opens.files told).top;
              part = λ has. part_now told has;
              within = (opens.files told).within;
              kept = subst (λ (f : Option (List ℕ)). AreKept v.top.number v.top.page.version (bytes_of f) v.cursor.kept) (sym (top_file told))
                  (kept_grown v.top.number v.top.page.version (bytes_of (store.seen old (names_in v.folder (page v.top.number)))) frame v.cursor.kept (opens.files told).kept);
            };
          }
