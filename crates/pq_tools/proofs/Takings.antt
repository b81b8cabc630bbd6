-- Rows that are taken of pages, one behind the other.
use Rattle.std.proofs.Common.{◌≡◌, ◌≢◌, ⊎_elim, ℕ, zero, suc, ◌+◌, ◌≤◌, ◌&&◌, max, nat_lt, not, Bool, true, false, IsTrue, List, [], ◌∷◌, ◌++◌, length, Option, Some, None, Result, Ok, Err, IfOk, IfErr, OnOk, if◌then◌else◌, refl, sym, ◌∙◌, ap, subst, arith, append_assoc, append-nil}
use Rattle.std.proofs.Math.Path.{ap₂}
use Rattle.std.proofs.lemmas.Bool.{cases_eq}
use Rattle.io_traits.specs.Reads.{bytes_of}
use Rattle.io_traits.specs.declared.stores.Store.{Ghosts as StoreWords}
use Rattle.io_traits.proofs.Looking.{Nothing}
use Rattle.io_traits.specs.declared.queue_faults.Damage.{Damage}
use Rattle.io_traits.specs.declared.queue_faults.QueueFault.{QueueFault}
use Rattle.io_traits.specs.declared.queue_faults.QueueFault.TheVariants as q
use Rattle.queue_page.specs.declared.row.PageRow.{PageRow}
use Rattle.queue_files.specs.Folders.{Folder, IsOwn, names_in, page}
use Rattle.queue_files.specs.Found.{Row, row_of, since}
use Rattle.queue_files.specs.Listing.{IsListed}
use Rattle.queue_files.specs.Marks.{read_in}
use Rattle.queue_files.specs.Others.{KeepsOthers}
use Rattle.queue_files.specs.Reading.{AreStanding}
use Rattle.queue_files.specs.declared.listing.Listing.{Listing}
use Rattle.queue_files.proofs.Standings.{standing_from}
use Rattle.queue_core.specs.Views.{QueueView}
use Rattle.queue_core.proofs.BatchTaken.{opens_taken}
use Rattle.pq_tools.specs.PageRuns.{FirstIs, IsNextRow, IsRun, rows_left}
use Rattle.pq_tools.specs.Numbers.{behind_rows, runs_out}
use Rattle.pq_tools.specs.Repairs.{Added, Adds, AreDifferent, Holds, OpensNew, Salvages, Spends, by_queue, Stepped, given, row_if, salvaged_of}
use Rattle.pq_tools.specs.declared.fault.RepairFault.{RepairFault}
use Rattle.pq_tools.specs.declared.fault.RepairFault.TheVariants as r
use Rattle.pq_tools.specs.Salvage.{end_with, open_from, rows_in, salvaged, salvage, taken, taken_by}
use Rattle.pq_tools.specs.declared.salvaging.PageRun.{PageRun}
use Rattle.pq_tools.proofs.Numbers.{fits_both, rows_behind, spent_more, spent_then}
use Rattle.pq_tools.proofs.RunSteps.{no_page, none_left}

-- ---- calls one behind the other

module _ {S : Type 0} (store : StoreWords S) where
  pub same_file : (Mine : List ℕ → Type 0) (name : List ℕ) (a b : S) → (Mine name → ⊥) → KeepsOthers store Mine a b → IsTrue store.tells → bytes_of (store.seen b name) ≡ bytes_of (store.seen a name)
  same_file Mine name a b other beside told = ap bytes_of (beside.reads told name other)

  pub holds_same : (v : QueueView) (rows : List Row) (a b : S) → Nothing store a b → Holds store v rows a → Holds store v rows b
  holds_same v rows a b same h = record { queue = h.queue; opens = opens_taken store a b same v v.unread v.cursor (λ told q opens. opens.files told) h.queue h.opens; is = h.is }

  pub adds_same : (v : QueueView) (a b : S) → Nothing store a b → Adds store [] v v a b
  adds_same v a b same told = record { is = refl; fits = refl; holds = λ before h. subst (λ rows. Holds store v rows b) (sym (append-nil before)) (holds_same v before a b same h) }

  pub adds_then : (xs ys : List Row) (u v w : QueueView) (a b c : S) → Adds store xs u v a b → Adds store ys v w b c → Adds store (xs ++ ys) u w a c
  adds_then xs ys u v w a b c one two told =
      let x = one told in
      let y = two told in
      record {
        is = y.is ∙ ap (λ q. behind_rows q ys) x.is ∙ sym (rows_behind u xs ys);
        fits = fits_both u v xs ys x.is x.fits y.fits;
        holds = λ before h. subst (λ rows. Holds store w rows c) (append_assoc before xs ys) (y.holds (before ++ xs) (x.holds before h));
      }

  pub adds_by : (xs ys : List Row) (v w : QueueView) (a b : S) → (IsTrue store.tells → xs ≡ ys) → Adds store xs v w a b → Adds store ys v w a b
  adds_by xs ys v w a b same adds told = subst (λ rows. Added store rows v w a b) (same told) (adds told)

  -- behind calls that change nothing
  pub adds_behind : (rows : List Row) (v w : QueueView) (a b c : S) → Nothing store a b → Adds store rows v w b c → Adds store rows v w a c
  adds_behind rows v w a b c same adds told = let x = adds told in record { is = x.is; fits = x.fits; holds = λ before h. x.holds before (holds_same v before a b same h) }

  -- rows for which no number is left
  pub spends_then : (xs ys : List Row) (v w : QueueView) (a b : S) → Adds store xs v w a b → Spends store ys w → Spends store (xs ++ ys) v
  spends_then xs ys v w a b adds out told = let x = adds told in spent_then v w xs ys x.is x.fits (out told)

  pub spends_by : (xs ys : List Row) (v : QueueView) → (IsTrue store.tells → xs ≡ ys) → Spends store xs v → Spends store ys v
  spends_by xs ys v same out told = subst (λ rows. runs_out v rows ≡ true) (same told) (out told)

-- ---- the rows of a run

given_more : (gives : Bool) (from : ℕ) (row : PageRow) (rows : List PageRow) → given gives from (row ∷ rows) ≡ row_if (gives && not (nat_lt row.number from)) row ++ given gives from rows
given_more false from row rows = refl
given_more true from row rows = by (nat_lt row.number from)
  where
    by : (b : Bool) → (if b then since from rows else row_of row ∷ since from rows) ≡ row_if (not b) row ++ since from rows
    by true = refl
    by false = refl

given_none : (gives : Bool) (from : ℕ) → given gives from [] ≡ []
given_none true from = refl
given_none false from = refl

-- the next row and those behind it
row_then : (file : List ℕ) (gives : Bool) (from : ℕ) (run next : PageRun) (row : PageRow) (given_it : Bool) → IsNextRow file run next row → given_it ≡ (gives && not (nat_lt row.number from))
    → row_if given_it row ++ given gives from (rows_left file next) ≡ given gives from (rows_left file run)
row_then file gives from run next row given_it more test =
    ap (λ b. row_if b row ++ given gives from (rows_left file next)) test ∙ sym (given_more gives from row (rows_left file next)) ∙ ap (given gives from) (sym more.rows)

-- for the next row no number is left
pub spends_row : {S : Type 0} (store : StoreWords S) (v : QueueView) (file : List ℕ) (gives : Bool) (from : ℕ) (run next : PageRun) (row : PageRow) (given_it : Bool) → IsNextRow file run next row
    → given_it ≡ (gives && not (nat_lt row.number from)) → Spends store (row_if given_it row) v → Spends store (given gives from (rows_left file run)) v
spends_row store v file gives from run next row given_it more test out told =
    subst (λ rows. runs_out v rows ≡ true) (row_then file gives from run next row given_it more test) (spent_more v (row_if given_it row) (given gives from (rows_left file next)) (out told))

-- what was written of a run, and what is left of it
pub record SoFar (file : List ℕ) (gives : Bool) (from : ℕ) (first run : PageRun) (count place : ℕ) (done : List Row) : Type 0 where
  pub is : IsRun file run
  pub rows : done ++ given gives from (rows_left file run) ≡ given gives from (rows_left file first)
  pub many : count + length (rows_left file run) ≡ length (rows_left file first)
  pub left : run.left + place ≡ first.left

module _ (file : List ℕ) (gives : Bool) (from : ℕ) (first : PageRun) where
  pub so_far_first : IsRun file first → SoFar file gives from first first 0 0 []
  so_far_first is = record { is = is; rows = refl; many = omega arith; left = omega arith }

  pub so_far_more : (run next : PageRun) (count place : ℕ) (done : List Row) (row : PageRow) (given_it : Bool) → SoFar file gives from first run count place done → IsNextRow file run next row → given_it ≡ (gives && not (nat_lt row.number from))
      → SoFar file gives from first next (count + 1) (place + 1) (done ++ row_if given_it row)
  so_far_more run next count place done row given_it s more test = record {
    is = more.is;
    rows = append_assoc done (row_if given_it row) (given gives from (rows_left file next))
        ∙ ap (λ l. done ++ l) (row_then file gives from run next row given_it more test)
        ∙ s.rows;
    many = omega (arith, s.many, ap length more.rows);
    left = omega (arith, s.left, more.left);
  }

  pub all_written : (run : PageRun) (count place : ℕ) (done : List Row) → SoFar file gives from first run count place done → rows_left file run ≡ [] → done ≡ given gives from (rows_left file first)
  all_written run count place done s none = sym (append-nil done) ∙ ap (λ l. done ++ l) (sym (ap (given gives from) none ∙ given_none gives from)) ∙ s.rows

  pub all_counted : (run : PageRun) (count place : ℕ) (done : List Row) → SoFar file gives from first run count place done → rows_left file run ≡ [] → count ≡ length (rows_left file first)
  all_counted run count place done s none = omega (arith, s.many, ap length none)

  pub at_last : (run : PageRun) (count place : ℕ) (done : List Row) → SoFar file gives from first run count place done → first.left ≤ place → rows_left file run ≡ []
  at_last run count place done s past = none_left file run (omega (arith, s.left, past))

  pub so_far_taken : (run next : PageRun) (count place : ℕ) (done given_now : List Row) → SoFar file gives from first run count place done → Stepped file gives from run next given_now true
      → SoFar file gives from first next (count + 1) (place + 1) (done ++ given_now)
  so_far_taken run next count place done given_now s step =
      subst (λ (l : List Row). SoFar file gives from first next (count + 1) (place + 1) (done ++ l)) (sym step.2)
      (so_far_more run next count place done step.0 (gives && not (nat_lt step.0.number from)) s step.1 refl)

  pub none_behind : (run next : PageRun) (count place : ℕ) (done given_now : List Row) → SoFar file gives from first run count place done → Stepped file gives from run next given_now false
      → done ++ given_now ≡ given gives from (rows_left file first)
  none_behind run next count place done given_now s step = ap (λ l. done ++ l) step.1 ∙ append-nil done ∙ all_written run count place done s step.0

-- ---- a page

taken_given : (end from number : ℕ) (rows : List PageRow) → FirstIs number rows → given (not (nat_lt number end)) from rows ≡ taken end from rows
taken_given end from number [] first = absurd first
taken_given end from number (r ∷ rows) first = ap (λ n. given (not (nat_lt n end)) from (r ∷ rows)) (sym first) ∙ by (nat_lt r.number end)
  where
    by : (b : Bool) → given (not b) from (r ∷ rows) ≡ (if b then [] else since from (r ∷ rows))
    by true = refl
    by false = refl

pub taken_rows : (file : List ℕ) (end from number : ℕ) (rows : List PageRow) (gives : Bool) → FirstIs number rows → rows ≡ rows_in file → gives ≡ not (nat_lt number end) → given gives from rows ≡ taken end from (rows_in file)
taken_rows file end from number rows gives first are test = ap (λ b. given b from rows) test ∙ taken_given end from number rows first ∙ ap (taken end from) are

end_first : (end number : ℕ) (rows : List PageRow) → FirstIs number rows → max end (number + length rows) ≡ end_with end rows
end_first end number [] first = absurd first
end_first end number (r ∷ rows) first = ap (λ n. max end (n + suc (length rows))) (sym first)

pub end_rows : (file : List ℕ) (end number count : ℕ) (rows : List PageRow) → FirstIs number rows → rows ≡ rows_in file → count ≡ length rows → max end (number + count) ≡ end_with end (rows_in file)
end_rows file end number count rows first are many = ap (λ n. max end (number + n)) many ∙ end_first end number rows first ∙ ap (end_with end) are

pub none_taken : (file : List ℕ) (end from : ℕ) → rows_in file ≡ [] → (taken end from (rows_in file) ≡ []) × (end_with end (rows_in file) ≡ end)
none_taken file end from none = (ap (taken end from) none, ap (end_with end) none)

-- ---- all pages

page_taken : (from end : ℕ) (file : Option (List ℕ)) (rest : ℕ → List Row) → taken_by from end file rest ≡ taken end from (rows_in (bytes_of file)) ++ rest (end_with end (rows_in (bytes_of file)))
page_taken from end None rest =
    let none = none_taken [] end from (no_page [] refl) in
    sym (ap₂ (λ (l : List Row) (e : ℕ). l ++ rest e) none.0 none.1)
page_taken from end (Some file) rest = refl

module _ (f : Folder) where
  -- a page of a list
  pub listed_more : (end n from behind : ℕ) (numbers : List ℕ) (file : List ℕ) → file ≡ bytes_of (f (page n)) → from ≡ open_from f n → behind ≡ end_with end (rows_in file)
      → salvaged_of f end (n ∷ numbers) ≡ taken end from (rows_in file) ++ salvaged_of f behind numbers
  listed_more end n from behind numbers file file_is from_is behind_is =
      page_taken (open_from f n) end (f (page n)) (λ e. salvaged_of f e numbers)
      ∙ ap₂ (λ (k : ℕ) (b : List ℕ). taken end k (rows_in b) ++ salvaged_of f (end_with end (rows_in b)) numbers) (sym from_is) (sym file_is)
      ∙ ap (λ e. taken end from (rows_in file) ++ salvaged_of f e numbers) (sym behind_is)

  salvaged_none : (n end : ℕ) → salvaged 0 n end f ≡ []
  unfolding salvaged
  salvaged_none n end = refl

  salvaged_with : (count n end : ℕ) → salvaged (suc count) n end f ≡ taken_by (open_from f n) end (f (page n)) (λ e. salvaged count (suc n) e f)
  unfolding salvaged
  salvaged_with count n end = refl

  -- two ways on from a page that are the same
  same_taken : (from end : ℕ) (file : Option (List ℕ)) (rest other : ℕ → List Row) → ((e : ℕ) → rest e ≡ other e) → taken_by from end file rest ≡ taken_by from end file other
  same_taken from end None rest other same = same end
  same_taken from end (Some file) rest other same = ap (λ l. taken end from (rows_in file) ++ l) (same (end_with end (rows_in file)))

  -- the pages that stand are those of a list
  pub salvaged_is : (count n limit end : ℕ) (numbers : List ℕ) → n + count ≡ limit → AreStanding n limit f numbers → salvaged count n end f ≡ salvaged_of f end numbers
  salvaged_is zero n limit end [] to stand = salvaged_none n end
  salvaged_is zero n limit end (m ∷ numbers) to stand = absurd (omega (arith, to, stand.0, stand.1))
  salvaged_is (suc count) n limit end [] to stand =
      salvaged_with count n end ∙ ap (λ (o : Option (List ℕ)). taken_by (open_from f n) end o (λ e. salvaged count (suc n) e f)) (stand n (omega arith) (omega (arith, to)))
      ∙ salvaged_is count (suc n) limit end [] (omega (arith, to)) (λ k past within. stand k (omega (arith, past)) within)
  salvaged_is (suc count) n limit end (m ∷ numbers) to stand = salvaged_with count n end ∙ ⊎_elim
      (λ (same : n ≡ m).
      let behind = subst (λ (k : ℕ). AreStanding (suc k) limit f numbers) (sym same) stand.4 in
      same_taken (open_from f n) end (f (page n)) (λ e. salvaged count (suc n) e f) (λ e. salvaged_of f e numbers) (λ e. salvaged_is count (suc n) limit e numbers (omega (arith, to)) behind)
      ∙ ap (λ k. taken_by (open_from f k) end (f (page k)) (λ e. salvaged_of f e numbers)) same)
      (λ other.
      ap (λ (o : Option (List ℕ)). taken_by (open_from f n) end o (λ e. salvaged count (suc n) e f)) (stand.3 n (omega arith) (omega (arith, other, stand.0)))
      ∙ salvaged_is count (suc n) limit end (m ∷ numbers) (omega (arith, to)) (omega (arith, other, stand.0), stand.1, stand.2, (λ k past less. stand.3 k (omega (arith, past)) less), stand.4))
      (cases_eq n m)

  pub salvage_is : (l : Listing) → IsListed f l → salvage f ≡ salvaged_of f 0 l.pages.items
  salvage_is l listed = salvaged_is 0x1_0000_0000 0 0x1_0000_0000 0 l.pages.items refl
      (standing_from 0 0x1_0000_0000 f l.pages.items listed.pages.rises (λ n has. let each = (listed.pages.each n).0 has in (omega arith, each.0, each.1)) (λ n past within some. (listed.pages.each n).1 (within, some)))

-- ---- the folder that is read stays

-- no file of it is one of those that a call changes
pub same_folder : {S : Type 0} (store : StoreWords S) (folder other : List ℕ) (a b : S) → AreDifferent folder other → KeepsOthers store (IsOwn (names_in other)) a b → IsTrue store.tells
    → read_in (names_in folder) (store.seen b) ≡ read_in (names_in folder) (store.seen a)
same_folder store folder other a b apart beside told = λ i role. beside.reads told (names_in folder role) (apart role) i

pub salvages_by : (has : Type 0) (spends : Bool) (Is : ℕ → Type 0) (result : Result ℕ RepairFault) → (has → ⊥) → IfOk result Is → OnOk result (spends ≡ false) → (result ≡ Err r.NumbersSpent → spends ≡ true)
    → IfErr result (λ fault. fault ≢ r.NotNew) → Salvages has spends Is result
salvages_by has spends Is (Ok count) none is fits out other = (none, fits, is)
salvages_by has spends Is (Err r.NotNew) none is fits out other = absurd (other refl)
salvages_by has spends Is (Err r.NumbersSpent) none is fits out other = (none, out refl)
salvages_by has spends Is (Err r.Store) none is fits out other = tt
salvages_by has spends Is (Err r.Memory) none is fits out other = tt

-- why no queue was made
pub opens_failed : {X : Type 0} (has : Type 0) (Is : X → Type 0) (fault : QueueFault) → ((d : Damage) → fault ≡ q.Damaged d → has) → OpensNew has Is (Err (by_queue fault))
opens_failed has Is (q.Damaged d) damaged = damaged d refl
opens_failed has Is q.Fault damaged = tt
opens_failed has Is q.Memory damaged = tt

-- and so no row was written
pub not_opened : {X : Type 0} (has : Type 0) (spends : Bool) (Is : X → Type 0) (Has : ℕ → Type 0) (fault : RepairFault) → OpensNew has Is (Err fault) → Salvages has spends Has (Err fault)
not_opened has spends Is Has r.NotNew opens = opens
not_opened has spends Is Has r.NumbersSpent opens = absurd opens
not_opened has spends Is Has r.Store opens = tt
not_opened has spends Is Has r.Memory opens = tt

-- ---- answers of calls

-- a fault of the store is no other one
pub no_store_fault : {X : Type 0} (result : Result X RepairFault) → IfErr result (λ fault. fault ≡ r.Store) → result ≡ Err r.NumbersSpent → ⊥
no_store_fault (Ok x) fault is = absurd cc
no_store_fault (Err r.NumbersSpent) fault is = absurd cc
no_store_fault (Err r.NotNew) fault is = absurd cc
no_store_fault (Err r.Store) fault is = absurd cc
no_store_fault (Err r.Memory) fault is = absurd cc

pub not_a_file : {X : Type 0} (result : Result X RepairFault) → IfErr result (λ fault. fault ≡ r.Store) → IfErr result (λ fault. fault ≢ r.NotNew)
not_a_file (Ok x) fault = tt
not_a_file (Err e) fault = λ other. absurd cc

pub on_ok_all : {T E : Type 0} (P : Type 0) (result : Result T E) → P → OnOk result P
on_ok_all P (Ok x) p = p
on_ok_all P (Err e) p = tt

pub on_ok_so : {T E : Type 0} (P Q : Type 0) (result : Result T E) → OnOk result P → (P → Q) → OnOk result Q
on_ok_so P Q (Ok x) p so = so p
on_ok_so P Q (Err e) p so = tt

pub if_ok_on : {T E : Type 0} (P : T → Type 0) (Q : Type 0) (R : T → Type 0) (result : Result T E) → IfOk result P → OnOk result Q → ((x : T) → P x → Q → R x) → IfOk result R
if_ok_on P Q R (Ok x) p q so = so x p q
if_ok_on P Q R (Err e) p q so = tt

module _ {S : Type 0} (store : StoreWords S) where
  -- behind calls that change nothing
  pub adds_when : {T E : Type 0} (xs ys : List Row) (v w : QueueView) (old mid new : S) (Is : Type 0) (result : Result T E) → Nothing store old mid → (IsTrue store.tells → OnOk result (Adds store xs v w mid new))
      → (Is → IsTrue store.tells → xs ≡ ys) → OnOk result (Is → Adds store ys v w old new)
  adds_when xs ys v w old mid new Is (Ok x) nothing adds same = λ is told.
      adds_by store xs ys v w old new (same is) (adds_behind store xs v w old mid new nothing (adds told)) told
  adds_when xs ys v w old mid new Is (Err e) nothing adds same = tt
