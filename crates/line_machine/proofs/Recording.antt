-- Where all that a queue holds is acknowledged and recorded, nothing is found in it.
use Rattle.std.proofs.Common.{◌≡◌, inl, inr, ⊎_elim, ℕ, zero, suc, ◌≤◌, ◌<◌, ◌+◌, nat_le, Bool, true, false, List, [], ◌∷◌, ◌++◌, length, take, refl, sym, ap, ap₂, ◌∙◌, subst, arith}
use Rattle.std.proofs.lemmas.Bool.{cases_Bool, leb-true, leb-false}
use Rattle.queue_page.specs.declared.row.PageRow.{PageRow}
use Rattle.queue_files.specs.Found.{Row, row_of, since}
use Rattle.queue_files.specs.Kept.{Page, Queue, all_rows, leading, first_open_of, IsSince, RowsKept, AreNumbered, IsSound, Rising}
use Rattle.queue_files.specs.Steps.{marked_pages}
use Rattle.history_book.specs.Lists.{IsIn}
use Rattle.history_book.specs.Queues.{numbers_at, acknowledged_in}
use Rattle.history_book.proofs.Following.{numbers_below}
use Rattle.history_book.proofs.Holding.{since_row, since_has, numbered_in}
use Rattle.history_book.proofs.Lists.{in_front, in_behind, in_either}
use Rattle.line_machine.specs.Recorded.{AreRecorded}

-- ---- numbers of pages

numbers_above : (k : ℕ) (acknowledged : List Bool) (n : ℕ) → IsIn n (numbers_at k acknowledged) → k ≤ n
numbers_above k [] n i = absurd i
numbers_above k (true ∷ rest) n (inl e) = omega (arith, e)
numbers_above k (true ∷ rest) n (inr i) = let more = numbers_above (suc k) rest n i in omega (arith, more)
numbers_above k (false ∷ rest) n i = let more = numbers_above (suc k) rest n i in omega (arith, more)

page_row : (p : Page) → IsSound p → (r : Row) → IsIn r (since p.from p.rows) → (p.least ≤ r.number) × (r.number < p.least + length p.rows)
page_row p sound r i =
    let s = since_row p.from p.rows r i in
    let within = numbered_in p.least p.rows sound.numbered s.row s.has in
    let same = ap (λ (x : Row). x.number) s.is in
    (omega (arith, within.0, same), omega (arith, within.1, same))

page_number : (p : Page) → IsSound p → (n : ℕ) → IsIn n (numbers_at p.least p.acknowledged) → (p.least ≤ n) × (n < p.least + length p.rows)
page_number p sound n i =
    let above = numbers_above p.least p.acknowledged n i in
    let below = numbers_below p.least p.acknowledged n i in
    let each = sound.each in
    (above, omega (arith, below, each))

rows_above : (number end : ℕ) (tails : List Page) (top : Page) → Rising number end tails top → (r : Row) → IsIn r (all_rows tails top) → end ≤ r.number
rows_above number end [] top rising r i = let within = page_row top rising.2 r i in let least = rising.1 in omega (arith, within.0, least)
rows_above number end (p ∷ tails) top rising r i =
    ⊎_elim (λ (j : IsIn r (since p.from p.rows)). let within = page_row p rising.3 r j in let least = rising.2 in omega (arith, within.0, least))
    (λ (j : IsIn r (all_rows tails top)). let more = rows_above (suc p.number) (p.least + length p.rows) tails top rising.4 r j in let least = rising.2 in omega (arith, more, least))
    (in_either r (since p.from p.rows) (all_rows tails top) i)

acked_above : (number end : ℕ) (tails : List Page) (top : Page) → Rising number end tails top → (n : ℕ) → IsIn n (acknowledged_in tails top) → end ≤ n
acked_above number end [] top rising n i = let within = page_number top rising.2 n i in let least = rising.1 in omega (arith, within.0, least)
acked_above number end (p ∷ tails) top rising n i =
    ⊎_elim (λ (j : IsIn n (numbers_at p.least p.acknowledged)). let within = page_number p rising.3 n j in let least = rising.2 in omega (arith, within.0, least))
    (λ (j : IsIn n (acknowledged_in tails top)). let more = acked_above (suc p.number) (p.least + length p.rows) tails top rising.4 n j in let least = rising.2 in omega (arith, more, least))
    (in_either n (numbers_at p.least p.acknowledged) (acknowledged_in tails top) i)

-- ---- a page that goes

module _ (p : Page) (behind : List Page) (top : Page) where
  -- a row of another page is acknowledged there
  pub acked_without : (number end : ℕ) (before : List Page) → Rising number end (before ++ p ∷ behind) top → (r : Row) → IsIn r (all_rows (before ++ behind) top)
      → IsIn r.number (acknowledged_in (before ++ p ∷ behind) top) → IsIn r.number (acknowledged_in (before ++ behind) top)
  acked_without number end [] rising r i acked =
      ⊎_elim
      (λ (j : IsIn r.number (numbers_at p.least p.acknowledged)).
      absurd (let less = (page_number p rising.3 r.number j).1 in let more = rows_above (suc p.number) (p.least + length p.rows) behind top rising.4 r i in omega (arith, less, more)))
      (λ (j : IsIn r.number (acknowledged_in behind top)). j) (in_either r.number (numbers_at p.least p.acknowledged) (acknowledged_in behind top) acked)
  acked_without number end (b ∷ before) rising r i acked =
      let rest = acked_without (suc b.number) (b.least + length b.rows) before rising.4 r in
      let here = in_either r (since b.from b.rows) (all_rows (before ++ behind) top) i in
      ⊎_elim
      (λ (j : IsIn r.number (numbers_at b.least b.acknowledged)). in_front r.number (numbers_at b.least b.acknowledged) (acknowledged_in (before ++ behind) top) j)
      (λ (j : IsIn r.number (acknowledged_in (before ++ p ∷ behind) top)).
      ⊎_elim
      (λ (k : IsIn r (since b.from b.rows)).
      absurd (let less = (page_row b rising.3 r k).1 in let more = acked_above (suc b.number) (b.least + length b.rows) (before ++ p ∷ behind) top rising.4 r.number j in omega (arith, less, more)))
      (λ (k : IsIn r (all_rows (before ++ behind) top)). in_behind r.number (numbers_at b.least b.acknowledged) (acknowledged_in (before ++ behind) top) (rest k j)) here)
      (in_either r.number (numbers_at b.least b.acknowledged) (acknowledged_in (before ++ p ∷ behind) top) acked)

-- ---- all is acknowledged and recorded

not_leading : (k : ℕ) (acknowledged : List Bool) → IsIn (k + leading acknowledged) (numbers_at k acknowledged) → ⊥
not_leading k [] i = i
not_leading k (true ∷ rest) (inl e) = omega (arith, e)
not_leading k (true ∷ rest) (inr i) = not_leading (suc k) rest (subst (λ n. IsIn n (numbers_at (suc k) rest)) (omega arith) i)
not_leading k (false ∷ rest) i = let more = numbers_above (suc k) rest (k + 0) i in omega (arith, more)

row_numbered : (k n : ℕ) (rows : List PageRow) → AreNumbered k rows → n < length rows → (x : PageRow) × IsIn x rows × (x.number ≡ k + n)
row_numbered k n [] are less = absurd (omega (arith, less))
row_numbered k zero (x ∷ rows) are less = (x, inl refl, let is = are.0 in omega (arith, is))
row_numbered k (suc n) (x ∷ rows) are less = let r = row_numbered (suc k) n rows are.1 (omega (arith, less)) in (r.0, inr r.1, let is = r.2 in omega (arith, is))

since_none : (n : ℕ) (rows : List PageRow) → ((r : Row) → IsIn r (since n rows) → ⊥) → since n rows ≡ []
since_none n rows none = by_rows (since n rows) refl
  where
    by_rows : (rs : List Row) → since n rows ≡ rs → since n rows ≡ []
    by_rows [] e = e
    by_rows (r ∷ rs) e = absurd (none r (subst (IsIn r) (sym e) (inl refl)))

-- behind the last row there is none
since_end : (p : Page) → IsSound p → (n : ℕ) → p.least + length p.rows ≤ n → (rows : List PageRow) → ((x : PageRow) → IsIn x rows → IsIn x p.rows) → since n rows ≡ []
since_end p sound n end rows part = since_none n rows (λ r i.
    let s = since_row n rows r i in
    let less = (numbered_in p.least p.rows sound.numbered s.row (part s.row s.has)).1 in
    let above = s.not_less in
    omega (arith, less, above, end))

page_end : (p : Page) → IsSound p → p.from ≡ first_open_of p → ((r : Row) → IsIn r (since p.from p.rows) → IsIn r.number (numbers_at p.least p.acknowledged)) → p.least + length p.rows ≤ p.from
page_end p sound from acked = ⊎_elim
    (λ (all : nat_le (length p.rows) (leading p.acknowledged) ≡ true). let less = leb-true (length p.rows) (leading p.acknowledged) all in omega (arith, less, from))
    (λ (some : nat_le (length p.rows) (leading p.acknowledged) ≡ false).
    absurd (let less = leb-false (length p.rows) (leading p.acknowledged) some in
    let x = row_numbered p.least (leading p.acknowledged) p.rows sound.numbered (omega (arith, less)) in
    let number = x.2 in
    let has = since_has p.from p.rows x.0 x.1 (omega (arith, number, from)) in
    not_leading p.least p.acknowledged (subst (λ n. IsIn n (numbers_at p.least p.acknowledged)) number (acked (row_of x.0) has))))
    (cases_Bool (nat_le (length p.rows) (leading p.acknowledged)))

-- each page ends before its first open number
abbrev pub AllSpent : List Page → Page → Type 0
AllSpent [] top = top.least + length top.rows ≤ top.from
AllSpent (p ∷ tails) top = (p.least + length p.rows ≤ p.from) × AllSpent tails top

pub all_spent : (number end : ℕ) (tails : List Page) (top : Page) → Rising number end tails top → AreRecorded tails → top.from ≡ first_open_of top
    → ((r : Row) → IsIn r (all_rows tails top) → IsIn r.number (acknowledged_in tails top)) → AllSpent tails top
all_spent number end [] top rising recorded from acked = page_end top rising.2 from acked
all_spent number end (p ∷ tails) top rising recorded from acked = (
  page_end p rising.3 recorded.0 (λ r i.
      ⊎_elim (λ (j : IsIn r.number (numbers_at p.least p.acknowledged)). j)
      (λ (j : IsIn r.number (acknowledged_in tails top)).
      absurd (let less = (page_row p rising.3 r i).1 in let more = acked_above (suc p.number) (p.least + length p.rows) tails top rising.4 r.number j in omega (arith, less, more)))
      (in_either r.number (numbers_at p.least p.acknowledged) (acknowledged_in tails top) (acked r (in_front r (since p.from p.rows) (all_rows tails top) i)))),
  all_spent (suc p.number) (p.least + length p.rows) tails top rising.4 recorded.1 from (λ r i.
      ⊎_elim
      (λ (j : IsIn r.number (numbers_at p.least p.acknowledged)).
      absurd (let less = (page_number p rising.3 r.number j).1 in let more = rows_above (suc p.number) (p.least + length p.rows) tails top rising.4 r i in omega (arith, less, more)))
      (λ (j : IsIn r.number (acknowledged_in tails top)). j)
      (in_either r.number (numbers_at p.least p.acknowledged) (acknowledged_in tails top) (acked r (in_behind r (since p.from p.rows) (all_rows tails top) i)))),
)

take_part : (c : ℕ) (rows : List PageRow) (x : PageRow) → IsIn x (take c rows) → IsIn x rows
take_part zero rows x i = absurd i
take_part (suc c) [] x i = i
take_part (suc c) (y ∷ rows) x (inl e) = inl e
take_part (suc c) (y ∷ rows) x (inr i) = inr (take_part c rows x i)

since_kept : (p : Page) → IsSound p → p.from ≡ first_open_of p → p.least + length p.rows ≤ p.from → (rows : List PageRow) → ((x : PageRow) → IsIn x rows → IsIn x p.rows) → (found : List Row) → IsSince p rows found → found ≡ []
since_kept p sound from end rows part found (inl e) = e ∙ since_end p sound p.from end rows part
since_kept p sound from end rows part found (inr e) = e ∙ since_end p sound (first_open_of p) (omega (arith, from, end)) rows part

-- nothing is kept of such pages
pub nothing_kept : (q : Queue) (number end : ℕ) (tails : List Page) (rows : List Row) (next : ℕ) → Rising number end tails q.top → AreRecorded tails → q.top.from ≡ first_open_of q.top → AllSpent tails q.top
    → RowsKept q tails rows next → rows ≡ []
nothing_kept q number end [] rows next rising recorded from spent kept = since_kept q.top rising.2 from spent (take kept.count q.top.rows) (take_part kept.count q.top.rows) rows kept.since
nothing_kept q number end (p ∷ tails) rows next rising recorded from spent kept =
    kept.2 ∙ ap₂ (λ (a b : List Row). a ++ b) (since_kept p rising.3 recorded.0 spent.0 p.rows (λ x i. i) kept.0 kept.3)
    (nothing_kept q (suc p.number) (p.least + length p.rows) tails kept.1 next rising.4 recorded.1 from spent.1 kept.4)

-- ---- a mark records all

pub marked_recorded : (tails : List Page) → AreRecorded (marked_pages tails)
marked_recorded [] = tt
marked_recorded (p ∷ tails) = (refl, marked_recorded tails)

pub recorded_without : (before behind : List Page) (p : Page) → AreRecorded (before ++ p ∷ behind) → AreRecorded (before ++ behind)
recorded_without [] behind p are = are.1
recorded_without (b ∷ before) behind p are = (are.0, recorded_without before behind p are.1)
