-- A new head page behind those of an open queue.
use Rattle.std.proofs.Common.{◌≡◌, ◌⊎◌, ⊎_elim, inl, inr, ℕ, suc, ◌≢◌, ◌+◌, ◌-◌, ◌<◌, ◌≤◌, ◌^◌, IsTrue, List, [], ◌∷◌, ◌++◌, length, Option, refl, sym, ◌∙◌, ap, subst, arith, length-append}
use Rattle.std.proofs.Math.Path.{ap₂}
use Rattle.io_traits.specs.Folders.{Content}
use Rattle.io_traits.specs.Reads.{bytes_of, file_length}
use Rattle.crc_frame.specs.Slots.{next_turn}
use Rattle.io_traits.specs.Moments.{ReadsBeside}
use Rattle.io_traits.specs.declared.stores.Store.{Ghosts as StoreWords}
use Rattle.queue_page.specs.Blocks.{IsPart}
use Rattle.queue_files.specs.Folders.{Role, head, page, checkpoint, names_in}
use Rattle.queue_files.specs.Kept.{Page, Queue, Rising, leading}
use Rattle.queue_files.specs.Resting.{Held, TopHeld}
use Rattle.queue_files.specs.Steps.{CanRoll, rolled}
use Rattle.queue_files.specs.Steps.{sealed as sealed_page}
use Rattle.queue_files.proofs.ApartNames.{names_apart}
use Rattle.queue_files.specs.Marks.{read_in}
use Rattle.queue_files.specs.Ready.{Ready, Keeps, IsNextPageOf, IsOfNext, PageKeeps, PageReady}
use Rattle.queue_files.specs.Writes.{NoneShorter}
use Rattle.queue_files.specs.declared.rolling.NextPage.{NextPage}
use Rattle.queue_files.proofs.TornMarks.{number_of}
use Rattle.queue_core.specs.Calls.{end_of, first_open}
use Rattle.queue_core.specs.Opens.{AreLong, ArePagesOf, Climb, HasPage, IsAmong, IsOfFiles, IsPageOf, IsReady, Opens, TailsSlotted}
use Rattle.queue_core.specs.Views.{OpenPageView, QueueView}
use Rattle.queue_core.specs.Writing.{behind_roll, next_page, sealed}
use Rattle.queue_core.proofs.AppendRuns.{slotted_still}
use Rattle.queue_core.proofs.KeptLemmas.{kept_rolled}

-- ---- one page more

climb_more : (from end : ℕ) (tails : List OpenPageView) (o : OpenPageView) → o.number ≡ end → Climb from end tails → Climb from (suc end) (tails ++ o ∷ [])
climb_more from end [] o is climb = (omega (arith, is, climb), omega (arith, is))
climb_more from end (t ∷ tails) o is climb = (climb.0, climb_more (suc t.number) end tails o is climb.1)

slotted_more : (folder : List ℕ) (content : Content) (tails : List OpenPageView) (o : OpenPageView) → TailsSlotted folder tails content → 48 ≤ file_length (content (names_in folder (checkpoint o.number)))
    → TailsSlotted folder (tails ++ o ∷ []) content
slotted_more folder content [] o slotted one = (one, tt)
slotted_more folder content (t ∷ tails) o slotted one = (slotted.0, slotted_more folder content tails o slotted.1 one)

are_more : (tails : List OpenPageView) (pages : List Page) (o : OpenPageView) (p : Page) → ArePagesOf tails pages → IsPageOf o p → ArePagesOf (tails ++ o ∷ []) (pages ++ p ∷ [])
are_more [] [] o p are is = (is, tt)
are_more [] (x ∷ pages) o p are is = absurd are
are_more (t ∷ tails) [] o p are is = absurd are
are_more (t ∷ tails) (x ∷ pages) o p are is = (are.0, are_more tails pages o p are.1 is)

among_more : (n : ℕ) (tails : List OpenPageView) (o : OpenPageView) → IsAmong n (tails ++ o ∷ []) → IsAmong n tails ⊎ (n ≡ o.number)
among_more n [] o (inl is) = inr is
among_more n [] o (inr none) = absurd none
among_more n (t ∷ tails) o (inl is) = inl (inl is)
among_more n (t ∷ tails) o (inr more) = ⊎_elim (λ among. inl (inr among)) (λ is. inr is) (among_more n tails o more)

-- pages below the head have lesser numbers
among_below : (n number end : ℕ) (tails : List OpenPageView) (pages : List Page) (last : Page) → ArePagesOf tails pages → Rising number end pages last → IsAmong n tails → n < last.number
among_below n number end [] pages last are rising among = absurd among
among_below n number end (o ∷ tails) [] last are rising among = absurd are
among_below n number end (o ∷ tails) (p ∷ pages) last are rising (inl is) = omega (arith, is, are.0.number, rising.1)
among_below n number end (o ∷ tails) (p ∷ pages) last are rising (inr among) = among_below n (suc p.number) (p.least + length p.rows) tails pages last are.1 rising.4 among

-- ---- files that stay

module _ (folder : List ℕ) (old new : Content) where
  abbrev Stays : ℕ → Type 0
  Stays n = new (names_in folder (page n)) ≡ old (names_in folder (page n))

  long_more : (tails : List OpenPageView) (o : OpenPageView) → ((n : ℕ) → IsAmong n tails → Stays n) → AreLong folder tails old → o.page.state.length ≤ file_length (new (names_in folder (page o.number)))
      → AreLong folder (tails ++ o ∷ []) new
  long_more [] o stay long one = (one, tt)
  long_more (t ∷ tails) o stay long one = (omega (arith, long.0, ap file_length (stay t.number (inl refl))), long_more tails o (λ n among. stay n (inr among)) long.1 one)

no_checkpoint : (n k : ℕ) → page n ≡ checkpoint k → ⊥
no_checkpoint n k is = absurd cc

no_head : (n : ℕ) → page n ≡ head → ⊥
no_head n is = absurd cc

-- a page that was just begun has one byte
begun_long : (q : Queue) (slots file : Option (List ℕ)) → TopHeld (rolled q) slots file → file_length file ≡ 1
begun_long q slots file held =
    let first : length held.front ≡ 1 = ap length held.is_page.begins ∙ ap (λ (l : List ℕ). suc (length l)) held.is_page.are in
    let none : length held.tail ≡ 0 = ap length held.behind in
    ap file_length held.stands ∙ length-append held.front held.tail ∙ omega (arith, first, none)

-- ---- the call

module _ {S : Type 0} (store : StoreWords S) (v : QueueView) (old new : S) (next : NextPage) (next_is : next ≡ next_page v.folder v.top) where
  pub ready_rolled : (IsTrue store.tells → NoneShorter (store.seen old) (store.seen new)) → (IsTrue store.tells → 48 ≤ file_length (store.seen new next.checkpoint)) → IsReady store v old → IsReady store (behind_roll v) new
  ready_rolled longer slot ready told =
      let slotted = ready told in
      let here = subst (λ (n : NextPage). 48 ≤ file_length (store.seen new n.checkpoint)) next_is (slot told) in
      record {
        climb = climb_more 0 v.top.number v.tails (sealed v.top) refl slotted.climb;
        tails = slotted_more v.folder (store.seen new) v.tails (sealed v.top) (slotted_still v.folder (store.seen old) (store.seen new) (longer told) v.tails slotted.tails) here;
        top = omega (arith, slotted.top, longer told (names_in v.folder head));
      }

  module _ (number : suc v.top.number < 2 ^ 32 - 1) (recorded : v.top.from ≡ first_open v.top) (q : Queue) (all : q.marked ≡ length q.top.rows) (opens : Opens store v q old) where
    abbrev names : Role → List ℕ
    names = names_in v.folder

    ends : q.top.least + length q.top.rows ≡ end_of v.top
    ends = omega (arith, opens.top.least, opens.top.count)

    can : CanRoll q
    can = let t = opens.top in record { marked = all; from = t.from ∙ recorded ∙ sym (ap₂ (λ (n : ℕ) (l : List _). n + leading l) t.least t.acknowledged); number = omega (arith, t.number, number) }

    is_next : IsNextPageOf store names q old opens.ready next
    is_next told =
        let t = opens.top in
        let held = (opens.ready.held told).top in
        let long : length (held.front ++ held.tail) ≡ v.top.page.state.length = sym (ap file_length held.stands) ∙ ap (λ n. file_length (store.seen old (names (page n)))) t.number ∙ (opens.files told).top in
        record {
          checkpoint_is = ap (λ (n : NextPage). n.checkpoint) next_is ∙ ap (λ n. names (checkpoint n)) (sym t.number);
          sealed_is = ap (λ (n : NextPage). n.sealed) next_is ∙ (λ i. record { page = sym t.number i; first_open = sym (t.from ∙ recorded) i; least = sym t.least i; count = sym t.count i; length = sym long i });
          file_is = ap (λ (n : NextPage). n.file) next_is ∙ ap (λ n. names (page (suc n))) (sym t.number);
          head_is = ap (λ (n : NextPage). n.head) next_is;
          turn_is = ap (λ (n : NextPage). n.turn) next_is ∙ ap next_turn (sym t.turn);
          state_is = ap (λ (n : NextPage). n.state) next_is ∙ (λ i. record { page = suc (sym t.number i); first_open = sym ends i; least = sym ends i; count = 0; length = 1 });
        }

    pub keeps_page : PageKeeps store next old new → Keeps store names q old new
    keeps_page keeps = keeps names q (names_apart v.folder) opens.ready can is_next

    other_file : (n : ℕ) → n ≢ suc v.top.number → IsOfNext (next_page v.folder v.top) (names (page n)) → ⊥
    other_file n other (inl is) = no_checkpoint n v.top.number (names_apart v.folder (page n) (checkpoint v.top.number) is)
    other_file n other (inr (inl is)) = other (ap number_of (names_apart v.folder (page n) (page (suc v.top.number)) is))
    other_file n other (inr (inr is)) = no_head n (names_apart v.folder (page n) head is)

    module _ (page_ready : PageReady store next old new) (page_beside : ReadsBeside store (IsOfNext next) old new) where
      now : Ready store names (rolled q) new
      now = page_ready names q (names_apart v.folder) opens.ready can is_next

      module _ (told : IsTrue store.tells) where
        behind : Held (rolled q) (read_in names (store.seen new))
        behind = now.held told

        page_same : (n : ℕ) → n ≢ suc v.top.number → store.seen new (names (page n)) ≡ store.seen old (names (page n))
        page_same n other = page_beside told (names (page n)) (λ mine. other_file n other (subst (λ (x : NextPage). IsOfNext x (names (page n))) next_is mine))

        tails_same : (n : ℕ) → IsAmong n v.tails → store.seen new (names (page n)) ≡ store.seen old (names (page n))
        tails_same n among = page_same n (λ is. omega (arith, is, among_below n 0 0 v.tails q.tails q.top opens.tails opens.ready.is among, opens.top.number))

        top_same : store.seen new (names (page v.top.number)) ≡ store.seen old (names (page v.top.number))
        top_same = page_same v.top.number (λ is. absurd (omega (arith, is)))

        part_now : HasPage v.cursor.page (behind_roll v) → IsPart (bytes_of (store.seen new (names (page v.cursor.page)))) v.cursor.block
        part_now (inl is) = absurd (omega (arith, is, (opens.files told).within))
        part_now (inr more) = at (among_more v.cursor.page v.tails (sealed v.top) more)
          where
            at : IsAmong v.cursor.page v.tails ⊎ (v.cursor.page ≡ v.top.number) → IsPart (bytes_of (store.seen new (names (page v.cursor.page)))) v.cursor.block
            at (inl among) = subst (λ (f : Option (List ℕ)). IsPart (bytes_of f) v.cursor.block) (sym (tails_same v.cursor.page among)) ((opens.files told).part (inr among))
            at (inr is) =
                subst (λ (f : Option (List ℕ)). IsPart (bytes_of f) v.cursor.block) (sym (subst (λ n. store.seen new (names (page n)) ≡ store.seen old (names (page n))) (sym is) top_same)) ((opens.files told).part (inl is))

        files_now : IsOfFiles (behind_roll v) (store.seen new)
        files_now = record {
          tails = long_more v.folder (store.seen old) (store.seen new) v.tails (sealed v.top) tails_same (opens.files told).tails (omega (arith, (opens.files told).top, ap file_length top_same));
          top = ap (λ n. file_length (store.seen new (names (page (suc n))))) (sym opens.top.number) ∙ begun_long q (store.seen new (names head)) (store.seen new (names (page (suc q.top.number)))) behind.top;
          part = part_now;
          within = omega (arith, (opens.files told).within);
          kept = kept_rolled v.top.number v.top.page.version 2 (bytes_of (store.seen old (names (page v.top.number)))) (bytes_of (store.seen new (names (page (suc v.top.number))))) v.cursor.kept (opens.files told).kept;
        }

      pub opens_rolled : Opens store (behind_roll v) (rolled q) new
      opens_rolled =
          let t = opens.top in
          record {
            ready = now;
            tails = are_more v.tails q.tails (sealed v.top) (sealed_page q.top) opens.tails
                (record { number = t.number; version = t.version; least = t.least; count = t.count; acknowledged = t.acknowledged; from = t.from; turn = refl; long = t.long });
            top = record { number = ap suc t.number; version = refl; least = ends; count = refl; acknowledged = refl; from = ends; turn = ap next_turn t.turn; long = refl };
            files = files_now;
          }
