-- What is kept of a queue behind a call is kept of the queue before it.
use Rattle.std.proofs.Common.{◌≡◌, inl, inr, ⊎_elim, ℕ, zero, suc, ◌+◌, ◌≤◌, nat_lt, Bool, true, false, List, [], ◌∷◌, ◌++◌, length, take, refl, sym, ◌∙◌, ap, subst, arith, append-nil, length-append}
use Rattle.std.proofs.lemmas.Bool.{cond-true}
use Rattle.std.proofs.lemmas.Bool.Decides.{nat_tests}
use Rattle.std.proofs.lemmas.List.{take_all, take-append-le}
use Rattle.queue_page.specs.declared.row.PageRow.{PageRow}
use Rattle.queue_files.specs.Found.{Row, since}
use Rattle.queue_files.specs.Kept.{Page, Queue, leading, first_open_of, IsSince, TopKept, RowsKept, AreNumbered, IsSound}
use Rattle.queue_files.specs.Steps.{marked, marked_pages, with_row, page_with, rolled, sealed, IsSpent, with_tails}
use Rattle.queue_files.specs.Laws.{MarkedKeeps, MarkedRolledKeeps, RowKeeps, RolledKeeps, PurgedKeeps}

-- ---- a mark

marked_rows : (q : Queue) (tails : List Page) (rows : List Row) (next : ℕ) → q.marked ≤ length q.top.rows → RowsKept (marked q) (marked_pages tails) rows next → RowsKept q tails rows next
marked_rows q [] rows next enough kept = record {
  count = kept.count;
  recorded = omega (arith, enough, kept.recorded);
  within = kept.within;
  since = ⊎_elim (λ s. inr s) (λ s. inr s) kept.since;
  next_is = kept.next_is;
}
marked_rows q (p ∷ tails) rows next enough kept = (kept.0, kept.1, kept.2, ⊎_elim (λ s. inr s) (λ s. inr s) kept.3, marked_rows q tails kept.1 next enough kept.4)

pub marked_keeps : MarkedKeeps
marked_keeps q folder enough kept = record { held = kept.held; is_found = kept.is_found; kept = marked_rows q q.tails kept.held.rows kept.held.next enough kept.kept; recorded = (omega (arith, enough, kept.recorded.0), kept.recorded.1) }

-- ---- a row

leading_more : (acknowledged : List Bool) → leading (acknowledged ++ false ∷ []) ≡ leading acknowledged
leading_more [] = refl
leading_more (true ∷ rest) = ap suc (leading_more rest)
leading_more (false ∷ rest) = refl

row_rows : (q : Queue) (row : PageRow) (tails : List Page) (rows : List Row) (next : ℕ) → RowsKept q tails rows next → RowsKept (with_row row q) tails rows next
row_rows q row [] rows next kept =
    let same : take kept.count (q.top.rows ++ row ∷ []) ≡ take kept.count q.top.rows = take-append-le kept.count q.top.rows (row ∷ []) kept.within in
    let begins : first_open_of (page_with row q.top) ≡ first_open_of q.top = ap (λ n. q.top.least + n) (leading_more q.top.acknowledged) in
    record {
      count = kept.count;
      recorded = kept.recorded;
      within = omega (arith, kept.within, length-append q.top.rows (row ∷ []));
      since = ⊎_elim
          (λ s. inl (s ∙ ap (since q.top.from) (sym same)))
          (λ s. inr (s ∙ ap (λ n. since n (take kept.count q.top.rows)) (sym begins) ∙ ap (since (first_open_of (page_with row q.top))) (sym same)))
          kept.since;
      next_is = kept.next_is;
    }
row_rows q row (p ∷ tails) rows next kept = (kept.0, kept.1, kept.2, kept.3, row_rows q row tails kept.1 next kept.4)

pub row_keeps : RowKeeps
row_keeps q row folder kept = record { held = kept.held; is_found = kept.is_found; kept = row_rows q row q.tails kept.held.rows kept.held.next kept.kept; recorded = kept.recorded }

-- ---- a new head page

none_since : (n : ℕ) (k : ℕ) → since n (take k []) ≡ []
none_since n zero = refl
none_since n (suc k) = refl

rolled_top : (q : Queue) (front rest rows : List Row) (next : ℕ) → q.marked ≤ length q.top.rows → rows ≡ front ++ rest → IsSince (sealed q.top) q.top.rows front → TopKept (rolled q) rest next → TopKept q rows next
rolled_top q front rest rows next enough parts since_is kept =
    let n = length q.top.rows in
    let none : kept.count ≡ 0 = omega (arith, kept.within) in
    let empty : rest ≡ [] = ⊎_elim (λ s. s ∙ none_since _ kept.count) (λ s. s ∙ none_since _ kept.count) kept.since in
    let all : take n q.top.rows ≡ q.top.rows = take_all n q.top.rows (omega arith) in
    let is : rows ≡ front = parts ∙ ap (λ r. front ++ r) empty ∙ append-nil front in
    record {
      count = n;
      recorded = enough;
      within = omega arith;
      since = ⊎_elim (λ s. inl (is ∙ s ∙ ap (since q.top.from) (sym all))) (λ s. inr (is ∙ s ∙ ap (since (first_open_of q.top)) (sym all))) since_is;
      next_is = omega (arith, kept.next_is, none);
    }

rolled_rows : (q : Queue) (tails : List Page) (rows : List Row) (next : ℕ) → q.marked ≤ length q.top.rows → RowsKept (rolled q) (tails ++ sealed q.top ∷ []) rows next → RowsKept q tails rows next
rolled_rows q [] rows next enough kept = rolled_top q kept.0 kept.1 rows next enough kept.2 kept.3 kept.4
rolled_rows q (p ∷ tails) rows next enough kept = (kept.0, kept.1, kept.2, kept.3, rolled_rows q tails kept.1 next enough kept.4)

pub rolled_keeps : RolledKeeps
rolled_keeps q folder enough kept = record { held = kept.held; is_found = kept.is_found; kept = rolled_rows q q.tails kept.held.rows kept.held.next enough kept.kept; recorded = (omega (arith, enough, kept.recorded.0), kept.recorded.1) }

-- behind a mark
pub marked_rolled_keeps : MarkedRolledKeeps
marked_rolled_keeps q folder enough kept = marked_keeps q folder enough (rolled_keeps (marked q) folder (omega arith) kept)

-- ---- a page that goes

none_left : (number from : ℕ) (rows : List PageRow) → AreNumbered number rows → number + length rows ≤ from → since from rows ≡ []
none_left number from [] are spent = refl
none_left number from (r ∷ rows) are spent =
    let less : nat_lt r.number from ≡ true = grind (arith, nat_tests, are.0, spent) in
    cond-true _ _ _ less ∙ none_left (suc number) from rows are.1 (omega (arith, spent))

same_rows : (q r : Queue) (tails : List Page) (rows : List Row) (next : ℕ) → q.top ≡ r.top → q.marked ≡ r.marked → RowsKept q tails rows next → RowsKept r tails rows next
same_rows q r [] rows next top marks kept = record {
  count = kept.count;
  recorded = omega (arith, kept.recorded, marks);
  within = subst (λ (p : Page). kept.count ≤ length p.rows) top kept.within;
  since = subst (λ (p : Page). IsSince p (take kept.count p.rows) rows) top kept.since;
  next_is = kept.next_is ∙ ap (λ (p : Page). p.least + kept.count) top;
}
same_rows q r (p ∷ tails) rows next top marks kept = (kept.0, kept.1, kept.2, kept.3, same_rows q r tails kept.1 next top marks kept.4)

purged_rows : (q r : Queue) (before behind : List Page) (p : Page) (rows : List Row) (next : ℕ) → q.top ≡ r.top → q.marked ≡ r.marked → IsSound p → IsSpent p
    → RowsKept q (before ++ behind) rows next → RowsKept r (before ++ p ∷ behind) rows next
purged_rows q r [] behind p rows next top marks sound spent kept =
    ([], rows, refl, inl (sym (none_left p.least p.from p.rows sound.numbered spent)), same_rows q r behind rows next top marks kept)
purged_rows q r (b ∷ before) behind p rows next top marks sound spent kept = (kept.0, kept.1, kept.2, kept.3, purged_rows q r before behind p kept.1 next top marks sound spent kept.4)

pub purged_keeps : PurgedKeeps
purged_keeps q before behind p folder parts sound spent kept = record {
  held = kept.held;
  is_found = kept.is_found;
  kept = subst (λ tails. RowsKept q tails kept.held.rows kept.held.next) (sym parts)
      (purged_rows (with_tails (before ++ behind) q) q before behind p kept.held.rows kept.held.next refl refl sound spent kept.kept);
  recorded = kept.recorded;
}
