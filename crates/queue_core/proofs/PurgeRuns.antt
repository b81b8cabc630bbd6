-- A page that goes: of the pages that are open, and of the queue.
use Rattle.std.proofs.Common.{◌≡◌, ◌≢◌, ◌⊎◌, ⊎_elim, inl, inr, ℕ, zero, suc, ◌+◌, ◌<◌, ◌≤◌, not, nat_lt, Bool, true, false, IsTrue, List, [], ◌∷◌, ◌++◌, length, map, get_or, remove, Option, Some, None, if◌then◌else◌, refl, sym, ◌∙◌, ap, subst, arith}
use Rattle.std.specs.Prelude.{is_some}
use Rattle.std.proofs.Math.Path.{ap₂}
use Rattle.std.proofs.lemmas.Bool.{cases_Bool, false≢true}
use Rattle.std.proofs.lemmas.Bool.Decides.{nat_tests}
use Rattle.io_traits.specs.Folders.{Content}
use Rattle.io_traits.specs.Reads.{bytes_of, file_length}
use Rattle.io_traits.specs.Moments.{ImagesTell, ReadsBeside}
use Rattle.io_traits.proofs.Moments.{started}
use Rattle.io_traits.specs.declared.stores.Store.{Ghosts as StoreWords}
use Rattle.queue_page.specs.Blocks.{IsPart}
use Rattle.queue_files.specs.Folders.{head, page, checkpoint, folder_in, names_in}
use Rattle.queue_files.specs.Kept.{Kept, Page, Queue}
use Rattle.queue_files.specs.Steps.{IsSpent, with_tails}
use Rattle.queue_files.proofs.Whole.{resting_is_kept}
use Rattle.queue_files.proofs.ApartNames.{names_apart}
use Rattle.queue_files.specs.Marks.{NoChances, read_in}
use Rattle.queue_files.specs.Ready.{Ready, Keeps, PurgeKeeps, PurgeReady}
use Rattle.queue_files.specs.declared.marking.Mark.{Mark}
use Rattle.queue_files.proofs.TornMarks.{number_of}
use Rattle.queue_core.specs.Calls.{behind_purge, first_spent, is_spent, spent_from, tail_bytes, without_spent}
use Rattle.queue_core.specs.Opens.{AreLong, ArePagesOf, Climb, HasPage, IsAmong, IsOfFiles, IsPageOf, IsReady, KeepsQueue, Opens, TailsSlotted, purged, unspent}
use Rattle.queue_core.specs.Kept.{AreKept}
use Rattle.queue_core.specs.Views.{OpenPageView, QueueView}
use Rattle.queue_core.proofs.MarkRuns.{Named, first_file, other_files}

-- ---- the page that goes

-- the page of this place among those that are open goes: it is recorded as wholly acknowledged
pub record Goes (tails : List OpenPageView) (place : ℕ) (o : OpenPageView) : Type 0 where
  pub within : place < length tails
  pub there : (x : OpenPageView) → x ≡ get_or tails place x → x ≡ o
  pub number : first_spent tails ≡ Some o.number
  pub left : remove tails place ≡ without_spent tails
  pub bytes : tail_bytes tails ≡ o.page.state.length + tail_bytes (without_spent tails)

if_so : {X : Type 0} (b : Bool) (x y : X) → b ≡ true → (if b then x else y) ≡ x
if_so true x y is = refl
if_so false x y is = absurd cc

if_not : {X : Type 0} (b : Bool) (x y : X) → b ≡ false → (if b then x else y) ≡ y
if_not true x y is = absurd cc
if_not false x y is = refl

some_is : {a b : ℕ} → ◌≡◌ {A = Option ℕ} (Some a) (Some b) → a ≡ b
some_is is = cc

none_some : {a : ℕ} → ◌≡◌ {A = Option ℕ} None (Some a) → ⊥
none_some is = absurd cc

-- none goes
pub none_goes : (at : ℕ) (tails : List OpenPageView) → spent_from at tails ≡ None → (first_spent tails ≡ None) × (without_spent tails ≡ tails)
none_goes at [] none = (refl, refl)
none_goes at (o ∷ tails) none = elim (cases_Bool (is_spent o)) [
  | inl is ↦ absurd (none_some (sym none ∙ if_so (is_spent o) (Some at) (spent_from (at + 1) tails) is))
  | inr is ↦
      let rest = none_goes (at + 1) tails (sym (if_not (is_spent o) (Some at) (spent_from (at + 1) tails) is) ∙ none) in
      (if_not (is_spent o) (Some o.number) (first_spent tails) is ∙ rest.0, if_not (is_spent o) tails (o ∷ without_spent tails) is ∙ ap (λ l. o ∷ l) rest.1)
]

goes_first : (o : OpenPageView) (tails : List OpenPageView) → is_spent o ≡ true → Goes (o ∷ tails) 0 o
goes_first o tails is = record {
  within = omega arith;
  there = λ x same. same;
  number = if_so (is_spent o) (Some o.number) (first_spent tails) is;
  left = sym (if_so (is_spent o) tails (o ∷ without_spent tails) is);
  bytes = ap (λ (l : List OpenPageView). o.page.state.length + tail_bytes l) (sym (if_so (is_spent o) tails (o ∷ without_spent tails) is));
}

goes_later : (o : OpenPageView) (tails : List OpenPageView) (i : ℕ) (x : OpenPageView) → is_spent o ≡ false → Goes tails i x → Goes (o ∷ tails) (suc i) x
goes_later o tails i x is g =
    let left : without_spent (o ∷ tails) ≡ o ∷ without_spent tails = if_not (is_spent o) tails (o ∷ without_spent tails) is in
    record {
      within = omega (arith, g.within);
      there = λ y same. g.there y same;
      number = if_not (is_spent o) (Some o.number) (first_spent tails) is ∙ g.number;
      left = ap (λ l. o ∷ l) g.left ∙ sym left;
      bytes = omega (arith, g.bytes, ap tail_bytes left);
    }

pub one_goes : (at : ℕ) (tails : List OpenPageView) (place : ℕ) → spent_from at tails ≡ Some place → (i : ℕ) × (place ≡ at + i) × (o : OpenPageView) × Goes tails i o
one_goes at [] place is = absurd (none_some is)
one_goes at (o ∷ tails) place some = elim (cases_Bool (is_spent o)) [
  | inl is ↦
      let here : at ≡ place = some_is (sym (if_so (is_spent o) (Some at) (spent_from (at + 1) tails) is) ∙ some) in
      (0, omega (arith, here), o, goes_first o tails is)
  | inr is ↦
      let rest = one_goes (at + 1) tails place (sym (if_not (is_spent o) (Some at) (spent_from (at + 1) tails) is) ∙ some) in
      (suc rest.0, omega (arith, rest.1), rest.2, goes_later o tails rest.0 rest.2 is rest.3)
]

pub goes_at : (tails : List OpenPageView) (place : ℕ) → spent_from 0 tails ≡ Some place → (o : OpenPageView) × Goes tails place o
goes_at tails place some =
    let g = one_goes 0 tails place some in
    let is : g.0 ≡ place = omega (arith, g.1) in
    (g.2, subst (λ n. Goes tails n g.2) is g.3)

-- there is a page that goes, or none, by its place as by its number
pub some_goes : (at : ℕ) (tails : List OpenPageView) → is_some (spent_from at tails) ≡ is_some (first_spent tails)
some_goes at [] = refl
some_goes at (o ∷ tails) = by (some_goes (at + 1) tails) (is_spent o)
  where
    by : is_some (spent_from (at + 1) tails) ≡ is_some (first_spent tails) → (b : Bool) → is_some (if b then Some at else spent_from (at + 1) tails) ≡ is_some (if b then Some o.number else first_spent tails)
    by rest true = refl
    by rest false = rest

-- ---- names

module _ (folder : List ℕ) where
  abbrev pub Filed : List OpenPageView → Type 0
  Filed tails = map (λ (o : OpenPageView). o.file) tails ≡ map (λ (o : OpenPageView). names_in folder (page o.number)) tails

  pub file_at : (tails : List OpenPageView) (i : ℕ) (o : OpenPageView) → i < length tails → o ≡ get_or tails i o → Filed tails → o.file ≡ names_in folder (page o.number)
  file_at [] i o less is filed = absurd (omega (arith, less))
  file_at (x ∷ tails) zero o less is filed = ap (λ (y : OpenPageView). y.file) is ∙ first_file filed ∙ ap (λ (y : OpenPageView). names_in folder (page y.number)) (sym is)
  file_at (x ∷ tails) (suc i) o less is filed = file_at tails i o (omega (arith, less)) is (other_files filed)

  pub slots_at : (tails : List OpenPageView) (marks : List Mark) (i : ℕ) (o : OpenPageView) (m : Mark) → i < length tails → o ≡ get_or tails i o → m ≡ get_or marks i m → Named folder tails marks
      → m.file ≡ names_in folder (checkpoint o.number)
  slots_at [] marks i o m less is was named = absurd (omega (arith, less))
  slots_at (x ∷ tails) [] i o m less is was named = absurd (omega (arith, ap length named))
  slots_at (x ∷ tails) (n ∷ marks) zero o m less is was named = ap (λ (y : Mark). y.file) was ∙ first_file named ∙ ap (λ (y : OpenPageView). names_in folder (checkpoint y.number)) (sym is)
  slots_at (x ∷ tails) (n ∷ marks) (suc i) o m less is was named = slots_at tails marks i o m (omega (arith, less)) is was (other_files named)

  pub filed_left : (tails : List OpenPageView) (i : ℕ) → Filed tails → Filed (remove tails i)
  filed_left [] zero filed = filed
  filed_left [] (suc i) filed = filed
  filed_left (x ∷ tails) zero filed = other_files filed
  filed_left (x ∷ tails) (suc i) filed = ap₂ (λ (n : List ℕ) (l : List (List ℕ)). n ∷ l) (first_file filed) (filed_left tails i (other_files filed))

  pub named_left : (tails : List OpenPageView) (marks : List Mark) (i : ℕ) → i < length tails → Named folder tails marks → Named folder (remove tails i) (remove marks i)
  named_left [] marks i less named = absurd (omega (arith, less))
  named_left (x ∷ tails) [] i less named = absurd (omega (arith, ap length named))
  named_left (x ∷ tails) (m ∷ marks) zero less named = other_files named
  named_left (x ∷ tails) (m ∷ marks) (suc i) less named = ap₂ (λ (n : List ℕ) (l : List (List ℕ)). n ∷ l) (first_file named) (named_left tails marks i (omega (arith, less)) (other_files named))

-- ---- the pages that stay

lower : (a b end : ℕ) (tails : List OpenPageView) → b ≤ a → Climb a end tails → Climb b end tails
lower a b end [] less climb = omega (arith, less, climb)
lower a b end (o ∷ tails) less climb = (omega (arith, less, climb.0), climb.1)

-- by cases of the first page
spent_cases : (o : OpenPageView) (tails : List OpenPageView) (k : ℕ) → first_spent (o ∷ tails) ≡ Some k → ((o.number ≡ k) × (without_spent (o ∷ tails) ≡ tails)) ⊎ ((first_spent tails ≡ Some k) × (without_spent (o ∷ tails) ≡ o ∷ without_spent tails))
spent_cases o tails k some = by (is_spent o) refl
  where
    by : (b : Bool) → is_spent o ≡ b → ((o.number ≡ k) × (without_spent (o ∷ tails) ≡ tails)) ⊎ ((first_spent tails ≡ Some k) × (without_spent (o ∷ tails) ≡ o ∷ without_spent tails))
    by true is = inl (some_is (sym (if_so (is_spent o) (Some o.number) (first_spent tails) is) ∙ some), if_so (is_spent o) tails (o ∷ without_spent tails) is)
    by false is = inr (sym (if_not (is_spent o) (Some o.number) (first_spent tails) is) ∙ some, if_not (is_spent o) tails (o ∷ without_spent tails) is)

spent_bounds : (from end : ℕ) (tails : List OpenPageView) (k : ℕ) → Climb from end tails → first_spent tails ≡ Some k → (from ≤ k) × (k < end)
spent_bounds from end [] k climb some = absurd (none_some some)
spent_bounds from end (o ∷ tails) k climb some = ⊎_elim
    (λ here. (omega (arith, climb.0, here.0), omega (arith, ends (suc o.number) tails climb.1, here.0)))
    (λ there. let rest = spent_bounds (suc o.number) end tails k climb.1 there.0 in (omega (arith, climb.0, rest.0), rest.1))
    (spent_cases o tails k some)
  where
    ends : (a : ℕ) (l : List OpenPageView) → Climb a end l → a ≤ end
    ends a [] c = c
    ends a (x ∷ l) c = omega (arith, c.0, ends (suc x.number) l c.1)

pub climb_left : (from end : ℕ) (tails : List OpenPageView) (k : ℕ) → Climb from end tails → first_spent tails ≡ Some k → Climb from end (without_spent tails)
climb_left from end [] k climb some = climb
climb_left from end (o ∷ tails) k climb some = ⊎_elim
    (λ here. subst (Climb from end) (sym here.1) (lower (suc o.number) from end tails (omega (arith, climb.0)) climb.1))
    (λ there. subst (Climb from end) (sym there.1) (climb.0, climb_left (suc o.number) end tails k climb.1 there.0))
    (spent_cases o tails k some)

module _ (folder : List ℕ) (k : ℕ) (old new : Content) (same_page : (n : ℕ) → n ≢ k → new (names_in folder (page n)) ≡ old (names_in folder (page n)))
    (same_slots : (n : ℕ) → n ≢ k → new (names_in folder (checkpoint n)) ≡ old (names_in folder (checkpoint n))) where
  slotted_above : (from end : ℕ) (tails : List OpenPageView) → k < from → Climb from end tails → TailsSlotted folder tails old → TailsSlotted folder tails new
  slotted_above from end [] above climb slotted = tt
  slotted_above from end (o ∷ tails) above climb slotted = (
    omega (arith, slotted.0, ap file_length (same_slots o.number (λ is. omega (arith, is, above, climb.0)))),
    slotted_above (suc o.number) end tails (omega (arith, above, climb.0)) climb.1 slotted.1,
  )

  pub slotted_left : (from end : ℕ) (tails : List OpenPageView) → Climb from end tails → first_spent tails ≡ Some k → TailsSlotted folder tails old → TailsSlotted folder (without_spent tails) new
  slotted_left from end [] climb some slotted = tt
  slotted_left from end (o ∷ tails) climb some slotted = ⊎_elim
      (λ here. subst (λ l. TailsSlotted folder l new) (sym here.1) (slotted_above (suc o.number) end tails (omega (arith, here.0)) climb.1 slotted.1))
      (λ there. let bounds = spent_bounds (suc o.number) end tails k climb.1 there.0 in
      subst (λ l. TailsSlotted folder l new) (sym there.1) (omega (arith, slotted.0, ap file_length (same_slots o.number (λ is. omega (arith, is, bounds.0)))), slotted_left (suc o.number) end tails climb.1 there.0 slotted.1))
      (spent_cases o tails k some)

  long_above : (from end : ℕ) (tails : List OpenPageView) → k < from → Climb from end tails → AreLong folder tails old → AreLong folder tails new
  long_above from end [] above climb long = tt
  long_above from end (o ∷ tails) above climb long = (
    omega (arith, long.0, ap file_length (same_page o.number (λ is. omega (arith, is, above, climb.0)))),
    long_above (suc o.number) end tails (omega (arith, above, climb.0)) climb.1 long.1,
  )

  pub long_left : (from end : ℕ) (tails : List OpenPageView) → Climb from end tails → first_spent tails ≡ Some k → AreLong folder tails old → AreLong folder (without_spent tails) new
  long_left from end [] climb some long = tt
  long_left from end (o ∷ tails) climb some long = ⊎_elim
      (λ here. subst (λ l. AreLong folder l new) (sym here.1) (long_above (suc o.number) end tails (omega (arith, here.0)) climb.1 long.1))
      (λ there. let bounds = spent_bounds (suc o.number) end tails k climb.1 there.0 in
      subst (λ l. AreLong folder l new) (sym there.1) (omega (arith, long.0, ap file_length (same_page o.number (λ is. omega (arith, is, bounds.0)))), long_left (suc o.number) end tails climb.1 there.0 long.1))
      (spent_cases o tails k some)

among_above : (n k from end : ℕ) (tails : List OpenPageView) → k < from → Climb from end tails → IsAmong n tails → n ≢ k
among_above n k from end [] above climb among = absurd among
among_above n k from end (o ∷ tails) above climb (inl is) = λ same. omega (arith, same, is, above, climb.0)
among_above n k from end (o ∷ tails) above climb (inr among) = among_above n k (suc o.number) end tails (omega (arith, above, climb.0)) climb.1 among

among_left : (n k from end : ℕ) (tails : List OpenPageView) → Climb from end tails → first_spent tails ≡ Some k → IsAmong n (without_spent tails) → (n ≢ k) × IsAmong n tails
among_left n k from end [] climb some among = absurd among
among_left n k from end (o ∷ tails) climb some among = ⊎_elim
    (λ here. let rest = subst (IsAmong n) here.1 among in (among_above n k (suc o.number) end tails (omega (arith, here.0)) climb.1 rest, inr rest))
    (λ there. ⊎_elim
    (λ is. ((λ same. omega (arith, same, is, (spent_bounds (suc o.number) end tails k climb.1 there.0).0)), inl is))
    (λ rest. let r = among_left n k (suc o.number) end tails climb.1 there.0 rest in (r.0, inr r.1))
    (subst (IsAmong n) there.1 among))
    (spent_cases o tails k some)

-- ---- the queue

-- the page of the queue that goes
pub record GoesOf (tails : List OpenPageView) (pages : List Page) (k : ℕ) : Type 0 where
  pub before : List Page
  pub behind : List Page
  pub p : Page
  pub parts : pages ≡ before ++ p ∷ behind
  pub spent : IsSpent p
  pub number : p.number ≡ k
  pub left : unspent pages ≡ before ++ behind
  pub are : ArePagesOf (without_spent tails) (before ++ behind)

spent_same : (o : OpenPageView) (p : Page) → IsPageOf o p → is_spent o ≡ not (nat_lt p.from (p.least + length p.rows))
spent_same o p is = ap₂ (λ (a b : ℕ). not (nat_lt a b)) (sym is.from) (ap₂ (λ (a b : ℕ). a + b) (sym is.least) (sym is.count))

spent_so : (p : Page) → not (nat_lt p.from (p.least + length p.rows)) ≡ true → IsSpent p
spent_so p is = by (nat_lt p.from (p.least + length p.rows)) refl is
  where
    by : (b : Bool) → nat_lt p.from (p.least + length p.rows) ≡ b → not b ≡ true → IsSpent p
    by true same says = absurd (false≢true says)
    by false same says = grind (arith, nat_tests, same)

pub goes_of : (tails : List OpenPageView) (pages : List Page) (k : ℕ) → ArePagesOf tails pages → first_spent tails ≡ Some k → GoesOf tails pages k
goes_of [] [] k are some = absurd (none_some some)
goes_of [] (p ∷ pages) k are some = absurd are
goes_of (o ∷ tails) [] k are some = absurd are
goes_of (o ∷ tails) (p ∷ pages) k are some = elim (cases_Bool (is_spent o)) [
  | inl is ↦
      let test = sym (spent_same o p are.0) ∙ is in
      record {
        before = [];
        behind = pages;
        p = p;
        parts = refl;
        spent = spent_so p test;
        number = are.0.number ∙ some_is (sym (if_so (is_spent o) (Some o.number) (first_spent tails) is) ∙ some);
        left = if_so (not (nat_lt p.from (p.least + length p.rows))) pages (p ∷ unspent pages) test;
        are = subst (λ l. ArePagesOf l pages) (sym (if_so (is_spent o) tails (o ∷ without_spent tails) is)) are.1;
      }
  | inr is ↦
      let test = sym (spent_same o p are.0) ∙ is in
      let rest = goes_of tails pages k are.1 (sym (if_not (is_spent o) (Some o.number) (first_spent tails) is) ∙ some) in
      record {
        before = p ∷ rest.before;
        behind = rest.behind;
        p = rest.p;
        parts = ap (λ l. p ∷ l) rest.parts;
        spent = rest.spent;
        number = rest.number;
        left = if_not (not (nat_lt p.from (p.least + length p.rows))) pages (p ∷ unspent pages) test ∙ ap (λ l. p ∷ l) rest.left;
        are = subst (λ l. ArePagesOf l (p ∷ rest.before ++ rest.behind)) (sym (if_not (is_spent o) tails (o ∷ without_spent tails) is)) (are.0, rest.are);
      }
]

-- none goes of the queue either
none_of_queue : (tails : List OpenPageView) (pages : List Page) → ArePagesOf tails pages → first_spent tails ≡ None → unspent pages ≡ pages
none_of_queue [] [] are none = refl
none_of_queue [] (p ∷ pages) are none = absurd are
none_of_queue (o ∷ tails) [] are none = absurd are
none_of_queue (o ∷ tails) (p ∷ pages) are none = elim (cases_Bool (is_spent o)) [
  | inl is ↦ absurd (none_some (sym none ∙ if_so (is_spent o) (Some o.number) (first_spent tails) is))
  | inr is ↦
      if_not (not (nat_lt p.from (p.least + length p.rows))) pages (p ∷ unspent pages) (sym (spent_same o p are.0) ∙ is)
      ∙ ap (λ l. p ∷ l) (none_of_queue tails pages are.1 (sym (if_not (is_spent o) (Some o.number) (first_spent tails) is) ∙ none))
]

-- ---- the call

module _ {S : Type 0} (store : StoreWords S) (v : QueueView) where
  -- nothing is done where none goes
  pub untouched : ImagesTell store → (s : S) → KeepsQueue store v s s
  untouched tell s q opens =
      let names = names_in v.folder in
      started store s (λ i. NoChances names i → Kept q (folder_in names i))
      (λ i left chances. let told = tell s (store.moment s) i left in
      resting_is_kept q names (read_in names (store.seen s)) i opens.ready.is (opens.ready.held told) (opens.ready.images told i left) (chances.elements (page q.top.number)))

  pub stays_open : (s : S) → first_spent v.tails ≡ None → without_spent v.tails ≡ v.tails → (q : Queue) → Opens store v q s → Opens store (behind_purge v) (purged q) s
  stays_open s none left q opens = subst (λ (l : List Page). Opens store (behind_purge v) (with_tails l q) s) (sym (none_of_queue v.tails q.tails opens.tails none))
      (subst (λ (l : List OpenPageView). Opens store (record v { tails = l }) q s) (sym left) opens)

  module _ (old new : S) (file slots : List ℕ) (k : ℕ) (some : first_spent v.tails ≡ Some k) (file_is : file ≡ names_in v.folder (page k)) (slots_are : slots ≡ names_in v.folder (checkpoint k)) where
    pub keeps_open : PurgeKeeps store file slots old new → (q : Queue) → Opens store v q old → Keeps store (names_in v.folder) q old new
    keeps_open keeps q opens =
        let g = goes_of v.tails q.tails k opens.tails some in
        keeps (names_in v.folder) q g.before g.behind g.p (names_apart v.folder) opens.ready
        (record { parts = g.parts; spent = g.spent; file_is = file_is ∙ ap (λ n. names_in v.folder (page n)) (sym g.number); slots_are = slots_are ∙ ap (λ n. names_in v.folder (checkpoint n)) (sym g.number) })

    module _ (beside : ReadsBeside store (λ n. (n ≡ file) ⊎ (n ≡ slots)) old new) where
      other_page : IsTrue store.tells → (n : ℕ) → n ≢ k → store.seen new (names_in v.folder (page n)) ≡ store.seen old (names_in v.folder (page n))
      other_page told n differs = beside told (names_in v.folder (page n)) (λ mine. ⊎_elim
          (λ is. differs (ap number_of (names_apart v.folder (page n) (page k) (is ∙ file_is))))
          (λ is. no (names_apart v.folder (page n) (checkpoint k) (is ∙ slots_are))) mine)
        where
          no : page n ≡ checkpoint k → ⊥
          no is = absurd cc

      other_slots : IsTrue store.tells → (n : ℕ) → n ≢ k → store.seen new (names_in v.folder (checkpoint n)) ≡ store.seen old (names_in v.folder (checkpoint n))
      other_slots told n differs = beside told (names_in v.folder (checkpoint n)) (λ mine. ⊎_elim
          (λ is. no (names_apart v.folder (checkpoint n) (page k) (is ∙ file_is)))
          (λ is. differs (ap number_of (names_apart v.folder (checkpoint n) (checkpoint k) (is ∙ slots_are)))) mine)
        where
          no : checkpoint n ≡ page k → ⊥
          no is = absurd cc

      same_head : IsTrue store.tells → store.seen new (names_in v.folder head) ≡ store.seen old (names_in v.folder head)
      same_head told = beside told (names_in v.folder head) (λ mine. ⊎_elim (λ is. no (names_apart v.folder head (page k) (is ∙ file_is))) (λ is. nor (names_apart v.folder head (checkpoint k) (is ∙ slots_are))) mine)
        where
          no : head ≡ page k → ⊥
          no is = absurd cc

          nor : head ≡ checkpoint k → ⊥
          nor is = absurd cc

      pub ready_left : IsReady store v old → IsReady store (behind_purge v) new
      ready_left ready told =
          let slotted = ready told in
          record {
            climb = climb_left 0 v.top.number v.tails k slotted.climb some;
            tails = slotted_left v.folder k (store.seen old) (store.seen new) (other_page told) (other_slots told) 0 v.top.number v.tails slotted.climb some slotted.tails;
            top = omega (arith, slotted.top, ap file_length (same_head told));
          }

      pub opens_left : IsReady store v old → PurgeReady store file slots old new → (q : Queue) → Opens store v q old → Opens store (behind_purge v) (purged q) new
      opens_left is_ready ready q opens =
          let g = goes_of v.tails q.tails k opens.tails some in
          let now = ready (names_in v.folder) q g.before g.behind g.p (names_apart v.folder) opens.ready
          (record { parts = g.parts; spent = g.spent; file_is = file_is ∙ ap (λ n. names_in v.folder (page n)) (sym g.number); slots_are = slots_are ∙ ap (λ n. names_in v.folder (checkpoint n)) (sym g.number) }) in
          record {
            ready = subst (λ (l : List Page). Ready store (names_in v.folder) (with_tails l q) new) (sym g.left) now;
            tails = subst (ArePagesOf (without_spent v.tails)) (sym g.left) g.are;
            top = opens.top;
            files = λ told.
                let files = opens.files told in
                let climb = (is_ready told).climb in
                let top_differs : v.top.number ≢ k = λ is. omega (arith, is, (spent_bounds 0 v.top.number v.tails k climb some).1) in
                record {
                  tails = long_left v.folder k (store.seen old) (store.seen new) (other_page told) (other_slots told) 0 v.top.number v.tails climb some files.tails;
                  top = ap file_length (other_page told v.top.number top_differs) ∙ files.top;
                  part = λ has. part_of told files climb top_differs has;
                  within = files.within;
                  kept = subst (λ (f : Option (List ℕ)). AreKept v.top.number v.top.page.version (bytes_of f) v.cursor.kept) (sym (other_page told v.top.number top_differs)) files.kept;
                };
          }
        where
          part_of : (told : IsTrue store.tells) → IsOfFiles v (store.seen old) → Climb 0 v.top.number v.tails → v.top.number ≢ k → HasPage v.cursor.page (behind_purge v)
              → IsPart (bytes_of (store.seen new (names_in v.folder (page v.cursor.page)))) v.cursor.block
          part_of told files climb differs (inl is) = subst (λ (f : Option (List ℕ)). IsPart (bytes_of f) v.cursor.block) (sym (other_page told v.cursor.page (λ same. differs (sym is ∙ same)))) (files.part (inl is))
          part_of told files climb differs (inr among) =
              let left = among_left v.cursor.page k 0 v.top.number v.tails climb some among in
              subst (λ (f : Option (List ℕ)). IsPart (bytes_of f) v.cursor.block) (sym (other_page told v.cursor.page left.0)) (files.part (inr left.1))
