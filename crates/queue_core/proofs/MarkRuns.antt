-- The marks of an open queue: they can be written, they are those of the queue, and what they leave.
use Rattle.std.proofs.Common.{◌≡◌, ◌≢◌, inl, inr, ℕ, suc, ◌+◌, ◌≤◌, ◌==◌, not, Bool, true, false, IsTrue, List, [], ◌∷◌, ◌++◌, length, map, drop, get_or, Option, if◌then◌else◌, refl, sym, ◌∙◌, ap, subst, arith, length-append}
use Rattle.std.proofs.Math.Path.{ap₂}
use Rattle.io_traits.specs.Folders.{Content}
use Rattle.io_traits.specs.Reads.{bytes_of, file_length}
use Rattle.crc_frame.specs.Slots.{place_of, next_turn}
use Rattle.io_traits.specs.declared.stores.Store.{Ghosts as StoreWords}
use Rattle.queue_page.specs.Blocks.{IsPart}
use Rattle.queue_page.specs.Grammar.{AreElements, IsPage}
use Rattle.queue_page.specs.declared.row.PageRow.{PageRow}
use Rattle.queue_files.specs.Folders.{Role, head, page, checkpoint, Folder, names_in}
use Rattle.queue_files.specs.Kept.{Page, Queue, leading, first_open_of, state_at}
use Rattle.queue_files.specs.Resting.{TailsHeld}
use Rattle.queue_files.specs.Steps.{marked, marked_page, marked_pages, recorded_page}
use Rattle.queue_files.proofs.ApartNames.{names_apart}
use Rattle.queue_files.specs.Marks.{read_in, IsMarkOf, AreMarksOf}
use Rattle.queue_files.specs.Ready.{Ready, AreMarks, MarkKeeps, MarkRecords}
use Rattle.queue_files.specs.Writes.{Write, write_of, writes_of, IsBeside, CanWrite, Wrote, NoneShorter, Settled}
use Rattle.queue_files.specs.declared.marking.Mark.{Mark}
use Rattle.queue_files.proofs.TornMarks.{number_of}
use Rattle.queue_files.proofs.WriteLemmas.{beside_still}
use Rattle.queue_files.proofs.Lengths.{longer_wrote}
use Rattle.queue_core.specs.Calls.{behind_mark, first_open, is_due, mark_of, marks_of, state_of, tail_checkpoints, with_marked, with_recorded}
use Rattle.queue_core.specs.Opens.{AreLong, ArePagesOf, Becomes, Climb, HasPage, IsAmong, IsPageOf, IsReady, KeepsQueue, Opens, TailsSlotted, place_behind}
use Rattle.queue_core.specs.Kept.{AreKept}
use Rattle.queue_core.specs.Views.{OpenPageView, QueueView}

-- ---- files

pub first_file : {x y : List ℕ} {xs ys : List (List ℕ)} → x ∷ xs ≡ y ∷ ys → x ≡ y
first_file is = ap (λ l. get_or l 0 []) is

pub other_files : {x y : List ℕ} {xs ys : List (List ℕ)} → x ∷ xs ≡ y ∷ ys → xs ≡ ys
other_files is = ap (drop 1) is

module _ (folder : List ℕ) where
  -- the marks of these pages are for their checkpoints
  abbrev pub Named : List OpenPageView → List Mark → Type 0
  Named tails marks = map (λ (m : Mark). m.file) marks ≡ tail_checkpoints folder tails ++ names_in folder head ∷ []

  abbrev Other : List ℕ → Type 0
  Other name = (name ≢ names_in folder head) × ((n : ℕ) → name ≢ names_in folder (checkpoint n))

  beside_due : (name : List ℕ) (due : Bool) (w : Write) (writes : List Write) → name ≢ w.name → IsBeside name writes → IsBeside name ((if due then w ∷ [] else []) ++ writes)
  beside_due name true w writes other rest = (other, rest)
  beside_due name false w writes other rest = rest

  -- a file that none of the marks is of: those from a number on
  beside_from : (name : List ℕ) (from end : ℕ) (tails : List OpenPageView) (top : OpenPageView) (marks : List Mark) → Climb from end tails → Named tails marks → name ≢ names_in folder head
      → ((n : ℕ) → from ≤ n → name ≢ names_in folder (checkpoint n)) → IsBeside name (writes_of (marks_of tails top marks))
  beside_from name from end [] top [] climb named head_other others = tt
  beside_from name from end [] top (m ∷ marks) climb named head_other others =
      beside_due name true (write_of (mark_of top true m)) (writes_of marks) (λ is. head_other (is ∙ first_file named)) (none marks (other_files named))
    where
      none : (ms : List Mark) → map (λ (x : Mark). x.file) ms ≡ [] → IsBeside name (writes_of ms)
      none [] is = tt
      none (x ∷ ms) is = absurd (omega (arith, ap length is))
  beside_from name from end (o ∷ tails) top [] climb named head_other others = tt
  beside_from name from end (o ∷ tails) top (m ∷ marks) climb named head_other others =
      beside_due name (is_due o) (write_of (mark_of o (is_due o) m)) (writes_of (marks_of tails top marks)) (λ is. others o.number climb.0 (is ∙ first_file named))
      (beside_from name (suc o.number) end tails top marks climb.1 (other_files named) head_other (λ n past. others n (omega (arith, past, climb.0))))

  place_fits : (turn : ℕ) → place_of 48 turn ≤ 48
  place_fits turn = omega arith

  can_due : (content : Content) (due : Bool) (w : Write) (writes : List Write) → w.place ≤ file_length (content w.name) → IsBeside w.name writes → CanWrite content writes → CanWrite content ((if due then w ∷ [] else []) ++ writes)
  can_due content true w writes fits beside rest = (fits, beside, rest)
  can_due content false w writes fits beside rest = rest

  pub can_mark : (content : Content) (from end : ℕ) (tails : List OpenPageView) (top : OpenPageView) (marks : List Mark) → Climb from end tails → TailsSlotted folder tails content
      → 48 ≤ file_length (content (names_in folder head)) → Named tails marks → CanWrite content (writes_of (marks_of tails top marks))
  can_mark content from end [] top [] climb slotted top_slotted named = tt
  can_mark content from end [] top (m ∷ []) climb slotted top_slotted named =
      (omega (arith, place_fits (next_turn top.turn), top_slotted, ap (λ n. file_length (content n)) (first_file named)), tt, tt)
  can_mark content from end [] top (m ∷ k ∷ marks) climb slotted top_slotted named = absurd (omega (arith, ap length named))
  can_mark content from end (o ∷ tails) top [] climb slotted top_slotted named = tt
  can_mark content from end (o ∷ tails) top (m ∷ marks) climb slotted top_slotted named =
      let is = first_file named in
      let apart = names_apart folder in
      can_due content (is_due o) (write_of (mark_of o (is_due o) m)) (writes_of (marks_of tails top marks))
      (omega (arith, place_fits (next_turn o.turn), slotted.0, ap (λ n. file_length (content n)) is))
      (beside_from m.file (suc o.number) end tails top marks climb.1 (other_files named) (λ same. no_head o.number (apart (checkpoint o.number) head (sym is ∙ same)))
      (λ n past same. omega (arith, past, ap number_of (apart (checkpoint o.number) (checkpoint n) (sym is ∙ same)))))
      (can_mark content (suc o.number) end tails top marks climb.1 slotted.1 top_slotted (other_files named))
    where
      no_head : (n : ℕ) → checkpoint n ≡ head → ⊥
      no_head n is = absurd cc

  -- pages stay
  pub page_stays : (n : ℕ) (end : ℕ) (tails : List OpenPageView) (top : OpenPageView) (marks : List Mark) (old new : Content) → Climb 0 end tails → Named tails marks → Wrote (writes_of (marks_of tails top marks)) old new
      → new (names_in folder (page n)) ≡ old (names_in folder (page n))
  page_stays n end tails top marks old new climb named wrote =
      let apart = names_apart folder in
      beside_still (writes_of (marks_of tails top marks)) (names_in folder (page n)) old new
      (beside_from (names_in folder (page n)) 0 end tails top marks climb named (λ is. absurd (no_head (apart (page n) head is))) (λ k past is. absurd (no_checkpoint k (apart (page n) (checkpoint k) is)))) wrote
    where
      no_head : page n ≡ head → ⊥
      no_head is = absurd cc

      no_checkpoint : (k : ℕ) → page n ≡ checkpoint k → ⊥
      no_checkpoint k is = absurd cc

-- ---- the marks of a queue

-- a page has as many bytes as its rows say
elements_length : (version number place : ℕ) (rows : List PageRow) (bytes : List ℕ) → AreElements version number place rows bytes → place_behind place rows ≡ place + length bytes
elements_length version number place [] bytes are = omega (arith, ap length are)
elements_length version number place (r ∷ rows) bytes are =
    omega (arith, elements_length version (number + 1) r.next rows are.1 are.5, are.4.next, ap length (sym are.2), length-append are.0 are.1)

pub page_length : (version least : ℕ) (rows : List PageRow) (bytes : List ℕ) → IsPage bytes version least rows → length bytes ≡ place_behind 1 rows
page_length version least rows bytes is = omega (arith, ap length is.begins, elements_length version least 1 rows is.elements is.are)

open_is : (o : OpenPageView) (p : Page) → IsPageOf o p → first_open_of p ≡ first_open o
open_is o p is = ap₂ (λ (n : ℕ) (l : List Bool). n + leading l) is.least is.acknowledged

state_is : (o : OpenPageView) (p : Page) (len : ℕ) → IsPageOf o p → len ≡ o.page.state.length → state_of o ≡ state_at p (first_open_of p) p.rows len
state_is o p len is long = λ i. record { page = sym is.number i; first_open = sym (open_is o p is) i; least = sym is.least i; count = sym is.count i; length = sym long i }

due_is : (o : OpenPageView) (p : Page) → IsPageOf o p → is_due o ≡ not (first_open_of p == p.from)
due_is o p is = ap₂ (λ (a b : ℕ). not (a == b)) (sym (open_is o p is)) (sym is.from)

module _ (folder : List ℕ) (content : Content) where
  abbrev names : Role → List ℕ
  names = names_in folder

  abbrev now : Folder
  now = read_in names content

  mark_is : (role : Role) (o : OpenPageView) (p : Page) (len : ℕ) (due : Bool) (m : Mark) → IsPageOf o p → len ≡ o.page.state.length → m.file ≡ names role → IsMarkOf names role p len (mark_of o due m)
  mark_is role o p len due m is long named = record { file = named; turn = ap next_turn (sym is.turn); state = state_is o p len is long }

  pub marks_are : (top : OpenPageView) (q_top : Page) (len : ℕ) (tails : List OpenPageView) (pages : List Page) (marks : List Mark) (held : TailsHeld pages now) → ArePagesOf tails pages
      → IsPageOf top q_top → len ≡ top.page.state.length → Named folder tails marks → AreMarksOf names q_top len pages now held (marks_of tails top marks)
  marks_are top q_top len [] [] [] held are top_is top_long named = absurd (omega (arith, ap length named))
  marks_are top q_top len [] [] (m ∷ []) held are top_is top_long named = (mark_of top true m, refl, mark_is head top q_top len true m top_is top_long (first_file named), refl)
  marks_are top q_top len [] [] (m ∷ k ∷ marks) held are top_is top_long named = absurd (omega (arith, ap length named))
  marks_are top q_top len [] (p ∷ pages) marks held are top_is top_long named = absurd are
  marks_are top q_top len (o ∷ tails) [] marks held are top_is top_long named = absurd are
  marks_are top q_top len (o ∷ tails) (p ∷ pages) [] held are top_is top_long named = absurd (omega (arith, ap length named))
  marks_are top q_top len (o ∷ tails) (p ∷ pages) (m ∷ marks) held are top_is top_long named = (
    mark_of o (is_due o) m,
    marks_of tails top marks,
    refl,
    mark_is (checkpoint p.number) o p (length held.0.bytes) (is_due o) m are.0 (page_length p.version p.least p.rows held.0.bytes held.0.is_page ∙ sym are.0.long) (first_file named ∙ ap (λ n. names (checkpoint n)) (sym are.0.number)),
    due_is o p are.0,
    marks_are top q_top len tails pages marks held.1 are.1 top_is top_long (other_files named),
  )

-- ---- what is open then

recorded_is : (o : OpenPageView) (p : Page) → IsPageOf o p → IsPageOf (with_recorded o) (recorded_page p)
recorded_is o p is = record { number = is.number; version = is.version; least = is.least; count = is.count; acknowledged = is.acknowledged; from = open_is o p is; turn = ap next_turn is.turn; long = is.long }

marked_is : (o : OpenPageView) (p : Page) → IsPageOf o p → IsPageOf (with_marked o) (marked_page p)
marked_is o p is = record {
  number = is.number;
  version = is.version;
  least = is.least;
  count = is.count;
  acknowledged = is.acknowledged;
  from = open_is o p is;
  turn = ap₂ (λ (b : Bool) (t : ℕ). if b then t else next_turn t) (ap₂ (λ (a b : ℕ). a == b) (open_is o p is) is.from) is.turn;
  long = is.long;
}

all_marked_are : (tails : List OpenPageView) (pages : List Page) → ArePagesOf tails pages → ArePagesOf (map with_marked tails) (marked_pages pages)
all_marked_are [] [] are = tt
all_marked_are [] (p ∷ pages) are = absurd are
all_marked_are (o ∷ tails) [] are = absurd are
all_marked_are (o ∷ tails) (p ∷ pages) are = (marked_is o p are.0, all_marked_are tails pages are.1)

among_marked : (n : ℕ) (tails : List OpenPageView) → IsAmong n (map with_marked tails) → IsAmong n tails
among_marked n [] among = absurd among
among_marked n (o ∷ tails) (inl is) = inl is
among_marked n (o ∷ tails) (inr among) = inr (among_marked n tails among)

has_marked : (n : ℕ) (v : QueueView) → HasPage n (behind_mark v) → HasPage n v
has_marked n v (inl is) = inl is
has_marked n v (inr among) = inr (among_marked n v.tails among)

climb_marked : (from end : ℕ) (tails : List OpenPageView) → Climb from end tails → Climb from end (map with_marked tails)
climb_marked from end [] climb = climb
climb_marked from end (o ∷ tails) climb = (climb.0, climb_marked (suc o.number) end tails climb.1)

module _ (folder : List ℕ) (old new : Content) where
  slots_stay : NoneShorter old new → (tails : List OpenPageView) → TailsSlotted folder tails old → TailsSlotted folder (map with_marked tails) new
  slots_stay longer [] slotted = tt
  slots_stay longer (o ∷ tails) slotted = (omega (arith, slotted.0, longer (names_in folder (checkpoint o.number))), slots_stay longer tails slotted.1)

  long_stay : ((n : ℕ) → new (names_in folder (page n)) ≡ old (names_in folder (page n))) → (tails : List OpenPageView) → AreLong folder tails old → AreLong folder (map with_marked tails) new
  long_stay same [] long = tt
  long_stay same (o ∷ tails) long = (omega (arith, long.0, ap file_length (same o.number)), long_stay same tails long.1)

module _ {S : Type 0} (store : StoreWords S) (v : QueueView) (marks : List Mark) (old new : S) (named : Named v.folder v.tails marks) where
  abbrev writes : List Write
  writes = writes_of (marks_of v.tails v.top marks)

  pub can_write : IsReady store v old → IsTrue store.tells → CanWrite (store.seen old) writes
  can_write ready told = let slotted = ready told in can_mark v.folder (store.seen old) 0 v.top.number v.tails v.top marks slotted.climb slotted.tails slotted.top named

  pub still_ready : IsReady store v old → (IsTrue store.tells → Wrote writes (store.seen old) (store.seen new)) → IsReady store (behind_mark v) new
  still_ready ready wrote told =
      let slotted = ready told in
      let longer = longer_wrote writes (store.seen old) (store.seen new) (wrote told) in
      record { climb = climb_marked 0 v.top.number v.tails slotted.climb; tails = slots_stay v.folder (store.seen old) (store.seen new) longer v.tails slotted.tails; top = omega (arith, slotted.top, longer (names_in v.folder head)) }

  module _ (q : Queue) (opens : Opens store v q old) where
    pub are_marks : AreMarks store (names_in v.folder) q old opens.ready (marks_of v.tails v.top marks)
    are_marks told =
        let held = opens.ready.held told in
        let files = opens.files told in
        marks_are v.folder (store.seen old) v.top q.top (length (held.top.front ++ held.top.tail)) v.tails q.tails marks held.tails opens.tails opens.top
        (sym (ap file_length held.top.stands) ∙ ap (λ n. file_length (store.seen old (names_in v.folder (page n)))) opens.top.number ∙ files.top) named

    pub opens_marked : IsReady store v old → (IsTrue store.tells → Wrote writes (store.seen old) (store.seen new)) → Ready store (names_in v.folder) (marked q) new → Opens store (behind_mark v) (marked q) new
    opens_marked is_ready wrote ready = record {
      ready = ready;
      tails = all_marked_are v.tails q.tails opens.tails;
      top = recorded_is v.top q.top opens.top;
      files = λ told.
          let files = opens.files told in
          let same : (n : ℕ) → store.seen new (names_in v.folder (page n)) ≡ store.seen old (names_in v.folder (page n)) = λ n. page_stays v.folder n v.top.number v.tails v.top marks (store.seen old) (store.seen new) (is_ready told).climb named (wrote told) in
          record {
            tails = long_stay v.folder (store.seen old) (store.seen new) same v.tails files.tails;
            top = ap file_length (same v.top.number) ∙ files.top;
            part = λ has. subst (λ (f : Option (List ℕ)). IsPart (bytes_of f) v.cursor.block) (sym (same v.cursor.page))
                (files.part (has_marked v.cursor.page v has));
            within = files.within;
            kept = subst (λ (f : Option (List ℕ)). AreKept v.top.number v.top.page.version (bytes_of f) v.cursor.kept) (sym (same v.top.number)) files.kept;
          };
    }

  -- the call, with marks that are these
  module _ (given : List Mark) (are : given ≡ marks_of v.tails v.top marks) where
    pub can_given : IsReady store v old → IsTrue store.tells → CanWrite (store.seen old) (writes_of given)
    can_given ready told = subst (λ (ms : List Mark). CanWrite (store.seen old) (writes_of ms)) (sym are) (can_write ready told)

    wrote_given : Settled store old (writes_of given) new → IsTrue store.tells → Wrote writes (store.seen old) (store.seen new)
    wrote_given settled told = subst (λ (ms : List Mark). Wrote (writes_of ms) (store.seen old) (store.seen new)) are (settled.wrote told)

    are_given : (q : Queue) (opens : Opens store v q old) → AreMarks store (names_in v.folder) q old opens.ready given
    are_given q opens = subst (AreMarks store (names_in v.folder) q old opens.ready) (sym are) (are_marks q opens)

    pub keeps_marked : MarkKeeps store given old new → KeepsQueue store v old new
    keeps_marked keeps q opens = keeps (names_in v.folder) q (names_apart v.folder) opens.ready (are_given q opens)

    pub ready_marked : IsReady store v old → Settled store old (writes_of given) new → IsReady store (behind_mark v) new
    ready_marked ready settled = still_ready ready (wrote_given settled)

    pub becomes_marked : IsReady store v old → Settled store old (writes_of given) new → MarkRecords store given old new → Becomes store marked v (behind_mark v) old new
    becomes_marked ready settled records q opens =
        opens_marked q opens ready (wrote_given settled) (records (names_in v.folder) q (names_apart v.folder) opens.ready (are_given q opens))
