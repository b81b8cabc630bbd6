-- The pages of a folder that holds a queue file by file.
use Rattle.std.proofs.Common.{◌≡◌, ◌≢◌, ◌⊎◌, inl, inr, ⊎_elim, ℕ, zero, suc, ◌+◌, ◌<◌, ◌≤◌, nat_lt, true, false, List, [], ◌∷◌, ◌++◌, length, take, Option, None, Result, Ok, refl, sym, ◌∙◌, ap, subst, arith}
use Rattle.std.specs.Bool.{⊤}
use Rattle.std.proofs.lemmas.Bool.{cond-false, cases_eq}
use Rattle.std.proofs.lemmas.Bool.Decides.{nat_tests}
use Rattle.io_traits.specs.declared.pages.PageState.{PageState}
use Rattle.queue_page.specs.Elements.{and_then}
use Rattle.queue_page.specs.Grammar.{IsPage}
use Rattle.queue_page.specs.Pages.{PageRows, recorded, extended}
use Rattle.queue_page.specs.declared.row.PageRow.{PageRow}
use Rattle.queue_page.proofs.Spelling.{pages_are_read}
use Rattle.queue_files.specs.Folders.{page, checkpoint, Folder}
use Rattle.queue_files.specs.Checkpoints.{Mismatch, misfit, told}
use Rattle.queue_files.specs.Found.{since, Damaged, or_damage, Found, Held, held_by, held, falling, opened_page, top_found, with_page, read_all}
use Rattle.queue_files.specs.Kept.{Page, Queue, first_open_of, IsSince, RowsKept, state_as, Tells, IsTail, AreTails, NoTail, Rising}

-- a page that is held, with one of its numbers
pub record FitsOne (p : Page) (h : Held) : Type 0 where
  pub number : h.number ≡ p.number
  pub first_open : ℕ
  pub one : (first_open ≡ p.from) ⊎ (first_open ≡ first_open_of p)
  pub bytes : List ℕ
  pub rest : List ℕ
  pub bytes_are : h.bytes ≡ bytes ++ rest
  pub named : ℕ
  pub state : h.state ≡ state_as named p first_open p.rows (length bytes)
  pub is_page : IsPage bytes p.version p.least p.rows

abbrev pub Fit : List Page → List Held → Type 0
Fit [] [] = ⊤
Fit [] (h ∷ hs) = ⊥
Fit (p ∷ tails) [] = ⊥
Fit (p ∷ tails) (h ∷ hs) = FitsOne p h × Fit tails hs

pub record HeldAs (tails : List Page) (found : Result (List Held) Damaged) : Type 0 where
  pub pages : List Held
  pub is : found ≡ Ok pages
  pub fit : Fit tails pages

pub below_all : (n m end : ℕ) (tails : List Page) (top : Page) → n < m → Rising m end tails top → NoTail n tails
below_all n m end [] top less rising = tt
below_all n m end (p ∷ tails) top less rising =
    ((λ same. absurd (omega (arith, less, rising.0, same))), below_all n (suc p.number) (p.least + length p.rows) tails top (omega (arith, less, rising.0)) rising.4)

abbrev Gone : ℕ → List Page → Page → Folder → Type 0
Gone from tails top folder = (n : ℕ) → from ≤ n → n < top.number → NoTail n tails → folder (page n) ≡ None

tells_one : (named : ℕ) (p : Page) (rows : List PageRow) (len : ℕ) (slots : Option (List ℕ)) → Tells named p rows len slots
    → (first_open : ℕ) × ((first_open ≡ p.from) ⊎ (first_open ≡ first_open_of p)) × (told slots ≡ Ok (state_as named p first_open rows len))
tells_one named p rows len slots (inl is) = (p.from, inl refl, is)
tells_one named p rows len slots (inr is) = (first_open_of p, inr refl, is)

fit_one : (p : Page) (tails : List Page) (folder : Folder) (rest : Result (List Held) Damaged) → IsTail p (folder (checkpoint p.number)) (folder (page p.number)) → HeldAs tails rest
    → HeldAs (p ∷ tails) (held_by p.number (folder (checkpoint p.number)) (folder (page p.number)) rest)
fit_one p tails folder rest tail more =
    let one = tells_one tail.named p p.rows (length tail.bytes) (folder (checkpoint p.number)) tail.told in
    let s = state_as tail.named p one.0 p.rows (length tail.bytes) in
    let file = tail.bytes ++ tail.rest in
    let now : Held = record { number = p.number; state = s; bytes = file } in
    record {
      pages = now ∷ more.pages;
      is =
          ap (λ (o : Option (List ℕ)). held_by p.number (folder (checkpoint p.number)) o rest) tail.stands
          ∙ ap (λ (t : Result PageState Mismatch). and_then (or_damage t (λ m. (checkpoint p.number, m))) (λ s. and_then rest (λ pages. Ok (record { number = p.number; state = s; bytes = file } ∷ pages)))) one.2
          ∙ ap (λ (r : Result (List Held) Damaged). and_then r (λ pages. Ok (now ∷ pages))) more.is;
      fit = (record { number = refl; first_open = one.0; one = one.1; bytes = tail.bytes; rest = tail.rest; bytes_are = refl; named = tail.named; state = refl; is_page = tail.is_page }, more.fit);
    }

pub fits : (count from end : ℕ) (tails : List Page) (top : Page) (folder : Folder) → from + count ≡ top.number → Rising from end tails top → AreTails tails folder
    → Gone from tails top folder → HeldAs tails (held count from folder)
fits zero from end [] top folder to rising are gone = record { pages = []; is = refl; fit = tt }
fits zero from end (p ∷ tails) top folder to rising are gone = absurd (omega (arith, to, rising.0, rising.1))
fits (suc count) from end [] top folder to rising are gone =
    subst (λ (o : Option (List ℕ)). HeldAs [] (held_by from (folder (checkpoint from)) o (held count (suc from) folder))) (sym (gone from (omega arith) (omega (arith, to)) tt))
    (fits count (suc from) end [] top folder (omega (arith, to)) (omega (arith, to), rising.1, rising.2) tt (λ n past less none. gone n (omega (arith, past)) less none))
fits (suc count) from end (p ∷ tails) top folder to rising are gone = ⊎_elim
    (λ (same : from ≡ p.number).
    let rest = fits count (suc from) (p.least + length p.rows) tails top folder (omega (arith, to)) (subst (λ (m : ℕ). Rising (suc m) (p.least + length p.rows) tails top) (sym same) rising.4) are.1
    (λ n past less none. gone n (omega (arith, past)) less ((λ is. absurd (omega (arith, past, same, is))), none)) in
    subst (λ (m : ℕ). HeldAs (p ∷ tails) (held_by m (folder (checkpoint m)) (folder (page m)) (held count (suc from) folder))) (sym same)
    (fit_one p tails folder (held count (suc from) folder) are.0 rest))
    (λ (other : from ≢ p.number).
    let later : suc from ≤ p.number = omega (arith, other, rising.0) in
    let none : NoTail from (p ∷ tails) = (other, below_all from (suc p.number) (p.least + length p.rows) tails top (omega (arith, rising.0)) rising.4) in
    subst (λ (o : Option (List ℕ)). HeldAs (p ∷ tails) (held_by from (folder (checkpoint from)) o (held count (suc from) folder))) (sym (gone from (omega arith) (omega (arith, to)) none))
    (fits count (suc from) end (p ∷ tails) top folder (omega (arith, to)) (later, rising.1, rising.2, rising.3, rising.4) are (λ n past less none. gone n (omega (arith, past)) less none)))
    (cases_eq from p.number)

-- ---- their numbers rise

none_below : (a b : ℕ) (p : Held) (rest : List Held) → a ≤ p.state.least → p.state.least + p.state.count ≡ b → falling a (p ∷ rest) ≡ falling b rest
none_below a b p rest not_less is =
    let t : nat_lt p.state.least a ≡ false = grind (arith, nat_tests, not_less) in
    cond-false _ _ _ t ∙ ap (λ n. falling n rest) is

pub none_falls : (number end : ℕ) (tails : List Page) (q : Page) (hs : List Held) (top : Held) → Rising number end tails q → Fit tails hs → top.state.least ≡ q.least
    → falling end (hs ++ top ∷ []) ≡ None
none_falls number end [] q [] top rising fit same = none_below end (top.state.least + top.state.count) top [] (omega (arith, rising.1, same)) refl
none_falls number end [] q (h ∷ hs) top rising fit same = absurd fit
none_falls number end (p ∷ tails) q [] top rising fit same = absurd fit
none_falls number end (p ∷ tails) q (h ∷ hs) top rising fit same =
    let least : h.state.least ≡ p.least = ap (λ (s : PageState). s.least) fit.0.state in
    let count : h.state.count ≡ length p.rows = ap (λ (s : PageState). s.count) fit.0.state in
    none_below end (p.least + length p.rows) h (hs ++ top ∷ []) (omega (arith, rising.2, least)) (omega (arith, least, count))
    ∙ none_falls (suc p.number) (p.least + length p.rows) tails q hs top rising.4 fit.1 same

-- ---- they read as their rows

page_opens : (p : Page) (h : Held) (f : FitsOne p h) → opened_page false h ≡ Ok (record { version = p.version; rows = p.rows; length = length f.bytes })
page_opens p h f =
    let s = state_as f.named p f.first_open p.rows (length f.bytes) in
    let reads : recorded s (f.bytes ++ f.rest) ≡ Ok (record { version = p.version; rows = p.rows; length = length f.bytes }) = pages_are_read s p.version p.rows f.bytes f.rest f.is_page refl refl in
    let read : recorded s h.bytes ≡ Ok (record { version = p.version; rows = p.rows; length = length f.bytes }) = ap (recorded s) f.bytes_are ∙ reads in
    ap (λ (t : PageState). opened_page false (record h { state = t })) f.state
    ∙ ap (λ r. or_damage (and_then r (λ page. Ok (extended false s h.bytes page))) (λ m. (page h.number, misfit m.place m.found m.expected))) read

since_one : (p : Page) (x : ℕ) (rows : List PageRow) → (x ≡ p.from) ⊎ (x ≡ first_open_of p) → IsSince p rows (since x rows)
since_one p x rows (inl is) = inl (ap (λ n. since n rows) is)
since_one p x rows (inr is) = inr (ap (λ n. since n rows) is)

-- all pages are read, and give the rows of the queue
pub record ReadAs (q : Queue) (tails : List Page) (end next : ℕ) (found : Result Found Damaged) : Type 0 where
  pub held : Found
  pub is : found ≡ Ok held
  pub kept : RowsKept q tails held.rows held.next
  pub recorded : held.recorded ≡ end
  pub next_is : held.next ≡ next

pub reads : (q : Queue) (tails : List Page) (hs : List Held) (top : Held) (read : PageRows) (count first_open : ℕ) → Fit tails hs → opened_page true top ≡ Ok read
    → top.state.first_open ≡ first_open → (first_open ≡ q.top.from) ⊎ (first_open ≡ first_open_of q.top) → top.state.least ≡ q.top.least → read.rows ≡ take count q.top.rows
    → q.marked ≤ count → count ≤ length q.top.rows → length (take count q.top.rows) ≡ count → ReadAs q tails (top.state.least + top.state.count) (q.top.least + count) (read_all hs top)
reads q [] [] top read count first_open fit opens since_is one least gives enough within long = record {
  held = top_found top read;
  is = ap (λ (r : Result PageRows Damaged). and_then r (λ read. Ok (top_found top read))) opens;
  kept = record {
    count = count;
    recorded = enough;
    within = within;
    since = subst (IsSince q.top (take count q.top.rows)) (sym (ap (λ n. since n read.rows) since_is ∙ ap (since first_open) gives)) (since_one q.top first_open (take count q.top.rows) one);
    next_is = omega (arith, least, ap length gives, long);
  };
  recorded = refl;
  next_is = omega (arith, least, ap length gives, long);
}
reads q [] (h ∷ hs) top read count first_open fit opens since_is one least gives enough within long = absurd fit
reads q (p ∷ tails) [] top read count first_open fit opens since_is one least gives enough within long = absurd fit
reads q (p ∷ tails) (h ∷ hs) top read count first_open fit opens since_is one least gives enough within long =
    let more = reads q tails hs top read count first_open fit.1 opens since_is one least gives enough within long in
    let f = fit.0 in
    let page_rows : PageRows = record { version = p.version; rows = p.rows; length = length f.bytes } in
    let front : h.state.first_open ≡ f.first_open = ap (λ (s : PageState). s.first_open) f.state in
    record {
      held = with_page h page_rows more.held;
      is =
          ap (λ (r : Result PageRows Damaged). and_then r (λ read. and_then (read_all hs top) (λ found. Ok (with_page h read found)))) (page_opens p h f)
          ∙ ap (λ (r : Result Found Damaged). and_then r (λ found. Ok (with_page h page_rows found))) more.is;
      kept = (since h.state.first_open p.rows, more.held.rows, refl, subst (IsSince p p.rows) (ap (λ n. since n p.rows) (sym front)) (since_one p f.first_open p.rows f.one), more.kept);
      recorded = more.recorded;
      next_is = more.next_is;
    }
