-- What a step makes of a queue is the queue of what the pipeline told of it.
use Rattle.std.proofs.Common.{◌≡◌, ◌⊎◌, inl, inr, ⊎_elim, ℕ, suc, ◌≤◌, ◌<◌, ◌+◌, Bool, true, false, List, [], ◌∷◌, ◌++◌, length, Option, Some, None, refl, sym, ap, ◌∙◌, subst, arith, append-nil, length-append}
use Rattle.event_tree.specs.declared.lists.DeadPart.{DeadPart}
use Rattle.event_flow.specs.Meaning.{Makes, Due}
use Rattle.event_flow.specs.Meaning as due
use Rattle.queue_page.specs.declared.row.PageRow.{PageRow}
use Rattle.queue_files.specs.Found.{Row, row_of, since}
use Rattle.queue_files.specs.Kept.{Page, Queue, all_rows, leading, first_open_of, IsSound, Rising, IsQueue}
use Rattle.queue_files.specs.Steps.{marked, marked_pages, recorded_page, page_with, sealed, next_top, IsSpent}
use Rattle.history_book.specs.Entries.{Accept, Mark, Assure, Read, Back, Shed, Deliver, Letters, Ack, Purge, Adopt, Opened}
use Rattle.history_book.specs.Legal.{IsRowOf, IsFound, Fits}
use Rattle.history_book.specs.Lists.{IsIn}
use Rattle.history_book.specs.Queues.{numbers_at, acknowledged_in, next_in, IsQueueAt, AcceptedIsWritten, MarkedIsSettled, RolledIsOf, AcknowledgedIsOf, PurgedIsOf, OpenedIsOf, OthersLeaveIt}
use Rattle.history_book.specs.States.{Plan, Written, Limits, State, start, newest, reads, left_of, out_of, tells_letters, numbers_found, numbers_out, opens, written, after}
use Rattle.history_book.proofs.Holding.{IsSinceRow, since_row, since_has, numbered_in, page_open, page_covers}
use Rattle.history_book.proofs.Lists.{in_front, in_behind, in_either}
use Rattle.history_book.proofs.Numbers.{start_sane, all_sane}
use Rattle.history_book.proofs.Opening.{openings_fit, found_or_acked}

-- ---- pages

top_sound : (number end : ℕ) (tails : List Page) (top : Page) → Rising number end tails top → IsSound top
top_sound number end [] top rising = rising.2
top_sound number end (p ∷ tails) top rising = top_sound (suc p.number) (p.least + length p.rows) tails top rising.4

page_sound : (number end : ℕ) (before : List Page) (p : Page) (behind : List Page) (top : Page) → Rising number end (before ++ p ∷ behind) top → IsSound p
page_sound number end [] p behind top rising = rising.3
page_sound number end (b ∷ before) p behind top rising = page_sound (suc b.number) (b.least + length b.rows) before p behind top rising.4

pub leading_most : (acknowledged : List Bool) → leading acknowledged ≤ length acknowledged
leading_most [] = omega arith
leading_most (true ∷ rest) = let most = leading_most rest in omega (arith, most)
leading_most (false ∷ rest) = omega arith

leading_same : (acknowledged : List Bool) → leading (acknowledged ++ false ∷ []) ≡ leading acknowledged
leading_same [] = refl
leading_same (true ∷ rest) = ap suc (leading_same rest)
leading_same (false ∷ rest) = refl

numbers_same : (k : ℕ) (acknowledged : List Bool) → numbers_at k (acknowledged ++ false ∷ []) ≡ numbers_at k acknowledged
numbers_same k [] = refl
numbers_same k (true ∷ rest) = ap (λ l. k ∷ l) (numbers_same (suc k) rest)
numbers_same k (false ∷ rest) = numbers_same (suc k) rest

pub numbers_below : (k : ℕ) (acknowledged : List Bool) (n : ℕ) → IsIn n (numbers_at k acknowledged) → n < k + length acknowledged
numbers_below k [] n i = absurd i
numbers_below k (true ∷ rest) n (inl e) = omega (arith, e)
numbers_below k (true ∷ rest) n (inr i) = let less = numbers_below (suc k) rest n i in omega (arith, less)
numbers_below k (false ∷ rest) n i = let less = numbers_below (suc k) rest n i in omega (arith, less)

-- ---- a row more

module _ (row : PageRow) where
  pub row_known : (tails : List Page) (top : Page) (r : Row) → IsIn r (all_rows tails (page_with row top)) → IsIn r (all_rows tails top) ⊎ (r ≡ row_of row)
  row_known [] top r i = by_row (since_row top.from (top.rows ++ row ∷ []) r i)
    where
      by_row : IsSinceRow top.from (top.rows ++ row ∷ []) r → IsIn r (since top.from top.rows) ⊎ (r ≡ row_of row)
      by_row s =
          let last : IsIn s.row (row ∷ []) → r ≡ row_of row = λ j. ⊎_elim (λ (e : s.row ≡ row). s.is ∙ ap row_of e) (λ (never : ⊥). absurd never) j in
          ⊎_elim (λ (j : IsIn s.row top.rows). inl (subst (λ y. IsIn y (since top.from top.rows)) (sym s.is) (since_has top.from top.rows s.row j s.not_less)))
          (λ (j : IsIn s.row (row ∷ [])). inr (last j)) (in_either s.row top.rows (row ∷ []) s.has)
  row_known (p ∷ tails) top r i =
      ⊎_elim (λ (j : IsIn r (since p.from p.rows)). inl (in_front r (since p.from p.rows) (all_rows tails top) j))
      (λ (j : IsIn r (all_rows tails (page_with row top))).
      ⊎_elim (λ (k : IsIn r (all_rows tails top)). inl (in_behind r (since p.from p.rows) (all_rows tails top) k)) (λ (e : r ≡ row_of row). inr e) (row_known tails top r j))
      (in_either r (since p.from p.rows) (all_rows tails (page_with row top)) i)

  row_stays : (tails : List Page) (top : Page) (r : Row) → IsIn r (all_rows tails top) → IsIn r (all_rows tails (page_with row top))
  row_stays [] top r i =
      let s = since_row top.from top.rows r i in
      subst (λ y. IsIn y (since top.from (top.rows ++ row ∷ []))) (sym s.is) (since_has top.from (top.rows ++ row ∷ []) s.row (in_front s.row top.rows (row ∷ []) s.has) s.not_less)
  row_stays (p ∷ tails) top r i =
      ⊎_elim (λ (j : IsIn r (since p.from p.rows)). in_front r (since p.from p.rows) (all_rows tails (page_with row top)) j)
      (λ (j : IsIn r (all_rows tails top)). in_behind r (since p.from p.rows) (all_rows tails (page_with row top)) (row_stays tails top r j))
      (in_either r (since p.from p.rows) (all_rows tails top) i)

  row_there : (tails : List Page) (top : Page) → top.from ≤ row.number → IsIn (row_of row) (all_rows tails (page_with row top))
  row_there [] top less = since_has top.from (top.rows ++ row ∷ []) row (in_behind row top.rows (row ∷ []) (inl refl)) less
  row_there (p ∷ tails) top less = in_behind (row_of row) (since p.from p.rows) (all_rows tails (page_with row top)) (row_there tails top less)

  pub acknowledged_same : (tails : List Page) (top : Page) → acknowledged_in tails (page_with row top) ≡ acknowledged_in tails top
  acknowledged_same [] top = numbers_same top.least top.acknowledged
  acknowledged_same (p ∷ tails) top = ap (λ l. numbers_at p.least p.acknowledged ++ l) (acknowledged_same tails top)

-- what is acknowledged has a number below the next
acknowledged_below : (number end : ℕ) (tails : List Page) (top : Page) → Rising number end tails top → (end ≤ top.least) × ((n : ℕ) → IsIn n (acknowledged_in tails top) → n < top.least + length top.rows)
acknowledged_below number end [] top rising =
    (rising.1, λ n i. let less = numbers_below top.least top.acknowledged n i in let each = rising.2.each in omega (arith, less, each))
acknowledged_below number end (p ∷ tails) top rising =
    let rest = acknowledged_below (suc p.number) (p.least + length p.rows) tails top rising.4 in
    let least = rest.0 in
    let first = rising.2 in (
      omega (arith, least, first),
      λ n i. ⊎_elim (λ (j : IsIn n (numbers_at p.least p.acknowledged)). let less = numbers_below p.least p.acknowledged n j in let each = rising.3.each in omega (arith, less, each, least))
          (λ (j : IsIn n (acknowledged_in tails top)). rest.1 n j) (in_either n (numbers_at p.least p.acknowledged) (acknowledged_in tails top) i),
    )

pub accepted_is_written : (makes : Makes) → AcceptedIsWritten makes
accepted_is_written makes told q row input parcel event legal running comes is queue number event_is names = (
  (running, omega (arith, number, is.low), omega (arith, number, is.high), comes),
  record {
    is = queue;
    known = λ r i. ⊎_elim
        (λ (j : IsIn r (all_rows q.tails q.top)). let k = is.known r j in (k.0, in_front k.0 s.rows (new ∷ []) k.1, k.2))
        (λ (e : r ≡ row_of row). (new, in_behind new s.rows (new ∷ []) (inl refl), subst (λ y. IsRowOf y new) (sym e) (record { number = refl; event = event_is; names = names }))) (row_known row q.tails q.top r i);
    kept = λ w i. ⊎_elim
        (λ (j : IsIn w s.rows). ⊎_elim (λ (f : IsFound (all_rows q.tails q.top) w). inl (f.0, row_stays row q.tails q.top f.0 f.1, f.2)) (λ (a : IsIn w.number s.acknowledged). inr a) (is.kept w j))
        (λ (j : IsIn w (new ∷ [])). inl (row_of row, row_there row q.tails q.top from_less, subst (λ v. IsRowOf (row_of row) v) (sym (only w j)) (record { number = refl; event = event_is; names = names })))
        (in_either w s.rows (new ∷ []) i);
    acknowledged = λ w i a.
        let b = subst (IsIn w.number) (acknowledged_same row q.tails q.top) a in
        ⊎_elim (λ (j : IsIn w s.rows). is.acknowledged w j b)
        (λ (j : IsIn w (new ∷ [])).
        absurd (let less = (acknowledged_below 0 0 q.tails q.top is.is).1 w.number b in let same = ap (λ (v : Written). v.number) (only w j) in omega (arith, less, same, number))) (in_either w s.rows (new ∷ []) i);
    recorded = let most = is.recorded in omega (arith, most, length-append q.top.rows (row ∷ []));
    settled = is.settled;
    low = omega (arith, number, length-append q.top.rows (row ∷ []));
    high = omega (arith, number, length-append q.top.rows (row ∷ []));
  },
)
  where
    s : State
    s = after makes start told

    new : Written
    new = written (after makes start told) input row.number event

    only : (w : Written) → IsIn w (new ∷ []) → w ≡ new
    only w (inl e) = e
    only w (inr never) = absurd never

    from_less : q.top.from ≤ row.number
    from_less =
        let sound = top_sound 0 0 q.tails (page_with row q.top) queue in
        let least = leading_most q.top.acknowledged in
        let same = leading_same q.top.acknowledged in
        let each = (top_sound 0 0 q.tails q.top is.is).each in
        ⊎_elim (λ (less : q.top.from ≤ q.top.least + leading (q.top.acknowledged ++ false ∷ [])). omega (arith, less, same, least, each, number))
        (λ (all : q.top.least + length (q.top.rows ++ row ∷ []) ≤ q.top.least + leading (q.top.acknowledged ++ false ∷ [])).
        absurd (omega (arith, all, same, least, each, length-append q.top.rows (row ∷ [])))) sound.from

-- ---- a mark

pub marked_open : (number end : ℕ) (tails : List Page) (top : Page) → Rising number end tails top → (r : Row) → IsIn r (all_rows (marked_pages tails) (recorded_page top)) → IsIn r (all_rows tails top)
marked_open number end [] top rising r i = page_open top rising.2 top.rows (λ x j. j) (since (first_open_of top) top.rows) (inr refl) r i
marked_open number end (p ∷ tails) top rising r i =
    ⊎_elim (λ (j : IsIn r (since (first_open_of p) p.rows)). in_front r (since p.from p.rows) (all_rows tails top) (page_open p rising.3 p.rows (λ x k. k) (since (first_open_of p) p.rows) (inr refl) r j))
    (λ (j : IsIn r (all_rows (marked_pages tails) (recorded_page top))). in_behind r (since p.from p.rows) (all_rows tails top) (marked_open (suc p.number) (p.least + length p.rows) tails top rising.4 r j))
    (in_either r (since (first_open_of p) p.rows) (all_rows (marked_pages tails) (recorded_page top)) i)

-- a page's open row is still open behind the mark, or acknowledged
page_still : (p : Page) → IsSound p → (r : Row) → IsIn r (since p.from p.rows) → IsIn r (since (first_open_of p) p.rows) ⊎ IsIn r.number (numbers_at p.least p.acknowledged)
page_still p sound r i =
    let s = since_row p.from p.rows r i in
    subst (λ (y : Row). IsIn y (since (first_open_of p) p.rows) ⊎ IsIn y.number (numbers_at p.least p.acknowledged)) (sym s.is)
    (page_covers p sound p.rows (λ x j. j) (since (first_open_of p) p.rows) (inr refl) s.row s.has s.not_less)

marked_still : (number end : ℕ) (tails : List Page) (top : Page) → Rising number end tails top → (r : Row) → IsIn r (all_rows tails top)
    → IsIn r (all_rows (marked_pages tails) (recorded_page top)) ⊎ IsIn r.number (acknowledged_in tails top)
marked_still number end [] top rising r i = page_still top rising.2 r i
marked_still number end (p ∷ tails) top rising r i =
    ⊎_elim
    (λ (j : IsIn r (since p.from p.rows)).
    ⊎_elim (λ (k : IsIn r (since (first_open_of p) p.rows)). inl (in_front r (since (first_open_of p) p.rows) (all_rows (marked_pages tails) (recorded_page top)) k))
    (λ (k : IsIn r.number (numbers_at p.least p.acknowledged)). inr (in_front r.number (numbers_at p.least p.acknowledged) (acknowledged_in tails top) k)) (page_still p rising.3 r j))
    (λ (j : IsIn r (all_rows tails top)).
    ⊎_elim (λ (k : IsIn r (all_rows (marked_pages tails) (recorded_page top))). inl (in_behind r (since (first_open_of p) p.rows) (all_rows (marked_pages tails) (recorded_page top)) k))
    (λ (k : IsIn r.number (acknowledged_in tails top)). inr (in_behind r.number (numbers_at p.least p.acknowledged) (acknowledged_in tails top) k))
    (marked_still (suc p.number) (p.least + length p.rows) tails top rising.4 r j))
    (in_either r (since p.from p.rows) (all_rows tails top) i)

pub marked_numbers : (tails : List Page) (top : Page) → acknowledged_in (marked_pages tails) (recorded_page top) ≡ acknowledged_in tails top
marked_numbers [] top = refl
marked_numbers (p ∷ tails) top = ap (λ l. numbers_at p.least p.acknowledged ++ l) (marked_numbers tails top)

-- also where more is told to be settled, up to the next number
marked_of : (s : State) (q : Queue) (front low high : ℕ) → front < next_in q → low ≤ next_in q → next_in q ≤ high → IsQueueAt s q → IsQueue (marked q)
    → IsQueueAt (record s { front = front; low = low; high = high }) (marked q)
marked_of s q front low high front_less low_less high_more is queue = record {
  is = queue;
  known = λ r i. is.known r (marked_open 0 0 q.tails q.top is.is r i);
  kept = λ w i. ⊎_elim (λ (f : IsFound (all_rows q.tails q.top) w). still w i f) (λ (a : IsIn w.number s.acknowledged). inr a) (is.kept w i);
  acknowledged = λ w i a. is.acknowledged w i (subst (IsIn w.number) (marked_numbers q.tails q.top) a);
  recorded = omega arith;
  settled = front_less;
  low = low_less;
  high = high_more;
}
  where
    still : (w : Written) → IsIn w s.rows → IsFound (all_rows q.tails q.top) w → IsFound (all_rows (marked_pages q.tails) (recorded_page q.top)) w ⊎ IsIn w.number s.acknowledged
    still w i f =
        ⊎_elim (λ (j : IsIn f.0 (all_rows (marked_pages q.tails) (recorded_page q.top))). inl (f.0, j, f.2))
        (λ (j : IsIn f.0.number (acknowledged_in q.tails q.top)). inr (is.acknowledged w i (subst (λ n. IsIn n (acknowledged_in q.tails q.top)) f.2.number j)))
        (marked_still 0 0 q.tails q.top is.is f.0 f.1)

pub marked_is_settled : (makes : Makes) → MarkedIsSettled makes
marked_is_settled makes told q front legal running is queue last =
    let low = is.low in let high = is.high in (
      (running, omega (arith, low, last), omega (arith, high, last)),
      marked_of (after makes start told) q front (front + 1) (front + 1) (omega (arith, last)) (omega (arith, last)) (omega (arith, last)) is queue,
    )

-- ---- a new head page

pub rolled_rows : (tails : List Page) (top : Page) → all_rows (tails ++ sealed top ∷ []) (next_top top) ≡ all_rows tails top
rolled_rows [] top = append-nil (since top.from top.rows)
rolled_rows (p ∷ tails) top = ap (λ l. since p.from p.rows ++ l) (rolled_rows tails top)

pub rolled_numbers : (tails : List Page) (top : Page) → acknowledged_in (tails ++ sealed top ∷ []) (next_top top) ≡ acknowledged_in tails top
rolled_numbers [] top = append-nil (numbers_at top.least top.acknowledged)
rolled_numbers (p ∷ tails) top = ap (λ l. numbers_at p.least p.acknowledged ++ l) (rolled_numbers tails top)

pub rolled_is_of : RolledIsOf
rolled_is_of s q is = (
  λ queue. let settled = is.settled in let most = is.recorded in marked_of s q s.front s.low s.high (omega (arith, settled, most)) is.low is.high is queue,
  λ can queue. record {
    is = queue;
    known = λ r i. is.known r (subst (IsIn r) (rolled_rows q.tails q.top) i);
    kept = λ w i. subst (λ l. IsFound l w ⊎ IsIn w.number s.acknowledged) (sym (rolled_rows q.tails q.top)) (is.kept w i);
    acknowledged = λ w i a. is.acknowledged w i (subst (IsIn w.number) (rolled_numbers q.tails q.top) a);
    recorded = omega arith;
    settled = let settled = is.settled in let most = is.recorded in omega (arith, settled, most);
    low = let low = is.low in omega (arith, low);
    high = let high = is.high in omega (arith, high);
  },
)

-- ---- acknowledgements

pub acknowledged_is_of : (makes : Makes) → AcknowledgedIsOf makes
acknowledged_is_of makes s q p batch is acks = record {
  is = acks.is;
  known = λ r i. is.known r (subst (IsIn r) acks.open_rows i);
  kept = λ w i.
      ⊎_elim (λ (f : IsFound (all_rows q.tails q.top) w). inl (subst (λ l. IsFound l w) (sym acks.open_rows) f)) (λ (a : IsIn w.number s.acknowledged). inr (in_front w.number s.acknowledged numbers a)) (is.kept w i);
  acknowledged = λ w i a.
      ⊎_elim (λ (b : IsIn w.number (acknowledged_in q.tails q.top)). in_front w.number s.acknowledged numbers (is.acknowledged w i b))
      (λ (b : IsIn w.number numbers). in_behind w.number s.acknowledged numbers b) (acks.more w.number a);
  recorded = omega (arith, is.recorded, acks.marked, acks.count);
  settled = omega (arith, is.settled, acks.marked, acks.least);
  low = omega (arith, is.low, acks.least, acks.count);
  high = omega (arith, is.high, acks.least, acks.count);
}
  where
    numbers : List ℕ
    numbers = numbers_out (out_of batch s.out)

-- ---- a page that goes

spent_none : (p : Page) → IsSound p → IsSpent p → (r : Row) → IsIn r (since p.from p.rows) → ⊥
spent_none p sound spent r i =
    let s = since_row p.from p.rows r i in
    let less = (numbered_in p.least p.rows sound.numbered s.row s.has).1 in
    let above = s.not_less in
    omega (arith, less, above, spent)

module _ (p : Page) (behind : List Page) (top : Page) where
  pub less_open : (before : List Page) (r : Row) → IsIn r (all_rows (before ++ behind) top) → IsIn r (all_rows (before ++ p ∷ behind) top)
  less_open [] r i = in_behind r (since p.from p.rows) (all_rows behind top) i
  less_open (b ∷ before) r i =
      ⊎_elim (λ (j : IsIn r (since b.from b.rows)). in_front r (since b.from b.rows) (all_rows (before ++ p ∷ behind) top) j)
      (λ (j : IsIn r (all_rows (before ++ behind) top)). in_behind r (since b.from b.rows) (all_rows (before ++ p ∷ behind) top) (less_open before r j))
      (in_either r (since b.from b.rows) (all_rows (before ++ behind) top) i)

  still_open : IsSound p → IsSpent p → (before : List Page) (r : Row) → IsIn r (all_rows (before ++ p ∷ behind) top) → IsIn r (all_rows (before ++ behind) top)
  still_open sound spent [] r i =
      ⊎_elim (λ (j : IsIn r (since p.from p.rows)). absurd (spent_none p sound spent r j)) (λ (j : IsIn r (all_rows behind top)). j) (in_either r (since p.from p.rows) (all_rows behind top) i)
  still_open sound spent (b ∷ before) r i =
      ⊎_elim (λ (j : IsIn r (since b.from b.rows)). in_front r (since b.from b.rows) (all_rows (before ++ behind) top) j)
      (λ (j : IsIn r (all_rows (before ++ p ∷ behind) top)). in_behind r (since b.from b.rows) (all_rows (before ++ behind) top) (still_open sound spent before r j))
      (in_either r (since b.from b.rows) (all_rows (before ++ p ∷ behind) top) i)

  less_numbers : (before : List Page) (n : ℕ) → IsIn n (acknowledged_in (before ++ behind) top) → IsIn n (acknowledged_in (before ++ p ∷ behind) top)
  less_numbers [] n i = in_behind n (numbers_at p.least p.acknowledged) (acknowledged_in behind top) i
  less_numbers (b ∷ before) n i =
      ⊎_elim (λ (j : IsIn n (numbers_at b.least b.acknowledged)). in_front n (numbers_at b.least b.acknowledged) (acknowledged_in (before ++ p ∷ behind) top) j)
      (λ (j : IsIn n (acknowledged_in (before ++ behind) top)). in_behind n (numbers_at b.least b.acknowledged) (acknowledged_in (before ++ p ∷ behind) top) (less_numbers before n j))
      (in_either n (numbers_at b.least b.acknowledged) (acknowledged_in (before ++ behind) top) i)

pub purged_is_of : (makes : Makes) → PurgedIsOf makes
purged_is_of makes s q before behind p number parts spent queue is = record {
  is = queue;
  known = λ r i. is.known r (subst (λ l. IsIn r (all_rows l q.top)) (sym parts) (less_open p behind q.top before r i));
  kept = λ w i. ⊎_elim
      (λ (f : IsFound (all_rows q.tails q.top) w). inl (f.0, still_open p behind q.top sound spent before f.0 (subst (λ l. IsIn f.0 (all_rows l q.top)) parts f.1), f.2))
      (λ (a : IsIn w.number s.acknowledged). inr a) (is.kept w i);
  acknowledged = λ w i a. is.acknowledged w i (subst (λ l. IsIn w.number (acknowledged_in l q.top)) (sym parts) (less_numbers p behind q.top before w.number a));
  recorded = is.recorded;
  settled = is.settled;
  low = is.low;
  high = is.high;
}
  where
    sound : IsSound p
    sound = page_sound 0 0 before p behind q.top (subst (λ l. Rising 0 0 l q.top) parts is.is)

-- ---- an opening

number_found : (r : Row) (rows : List Row) → IsIn r rows → IsIn r.number (numbers_found rows)
number_found r [] i = absurd i
number_found r (x ∷ rows) (inl e) = inl (ap (λ (y : Row). y.number) e)
number_found r (x ∷ rows) (inr i) = inr (number_found r rows i)

pub opened_is_of : (makes : Makes) → OpenedIsOf makes
opened_is_of makes told q found limit policy legal fits opened = record {
  is = opened.is;
  known = λ r i. now.rows.known r (subst (IsIn r) opened.rows i);
  kept = λ w i. subst (λ l. IsFound l w ⊎ IsIn w.number (opens s found.rows limits).acknowledged) (sym opened.rows) (either w i);
  acknowledged = λ w i a.
      ⊎_elim (λ (f : IsFound found.rows w). absurd (opened.others w.number a (subst (λ n. IsIn n (numbers_found found.rows)) f.2.number (number_found f.0 found.rows f.1)))) (λ b. b) (either w i);
  recorded = opened.within;
  settled = omega (arith, fits.recorded, opened.recorded);
  low = omega (arith, fits.behind, opened.next_is);
  high = omega (arith, fits.within, opened.next_is);
}
  where
    s : State
    s = after makes start told

    limits : Limits
    limits = record { limit = limit; policy = policy }

    now : Fits (opens s found.rows limits) found
    now = (openings_fit makes told found limit policy legal fits).1

    either : (w : Written) → IsIn w (opens s found.rows limits).rows → IsFound found.rows w ⊎ IsIn w.number (opens s found.rows limits).acknowledged
    either w i = found_or_acked s (all_sane makes start told legal start_sane).numbered found limits fits w i

-- ---- all other entries

same_of : (s t : State) (q : Queue) → t.rows ≡ s.rows → t.acknowledged ≡ s.acknowledged → t.front ≡ s.front → t.low ≡ s.low → t.high ≡ s.high → IsQueueAt s q → IsQueueAt t q
same_of s t q rows acknowledged front low high is = record {
  is = is.is;
  known = λ r i. let k = is.known r i in (k.0, subst (IsIn k.0) (sym rows) k.1, k.2);
  kept = λ w i. subst (λ l. IsFound (all_rows q.tails q.top) w ⊎ IsIn w.number l) (sym acknowledged) (is.kept w (subst (IsIn w) rows i));
  acknowledged = λ w i a. subst (IsIn w.number) (sym acknowledged) (is.acknowledged w (subst (IsIn w) rows i) a);
  recorded = is.recorded;
  settled = omega (arith, front, is.settled);
  low = omega (arith, low, is.low);
  high = omega (arith, high, is.high);
}

read_of : (s : State) (q : Queue) (batch : ℕ) (numbers : List ℕ) (plan : Option Plan) → IsQueueAt s q → IsQueueAt (reads s batch numbers plan) q
read_of s q batch numbers None is = is
read_of s q batch numbers (Some plan) is = same_of s _ q refl refl refl refl refl is

letters_of : (s : State) (q : Queue) (batch : ℕ) (letters : List DeadPart) (left : List Due) → IsQueueAt s q → IsQueueAt (tells_letters s batch letters left) q
letters_of s q batch letters [] is = is
letters_of s q batch letters (due.Letters ds ∷ rest) is = same_of s _ q refl refl refl refl refl is
letters_of s q batch letters (due.Events id at es ∷ rest) is = same_of s _ q refl refl refl refl refl is

pub others_leave_it : (makes : Makes) → OthersLeaveIt makes
others_leave_it makes s q (Accept input parcel number event) other is = absurd other
others_leave_it makes s q (Mark front) other is = absurd other
others_leave_it makes s q (Assure input front) other is = is
others_leave_it makes s q (Read batch generation numbers) other is = read_of s q batch numbers (newest s.plans) is
others_leave_it makes s q (Back batch verdicts) other is = same_of s _ q refl refl refl refl refl is
others_leave_it makes s q (Shed batch older newer) other is = same_of s _ q refl refl refl refl refl is
others_leave_it makes s q (Deliver batch at events fates) other is = same_of s _ q refl refl refl refl refl is
others_leave_it makes s q (Letters batch letters) other is = letters_of s q batch letters (left_of (out_of batch s.out)) is
others_leave_it makes s q (Ack batch) other is = absurd other
others_leave_it makes s q (Purge page) other is = is
others_leave_it makes s q (Adopt generation config draws) other is = same_of s _ q refl refl refl refl refl is
others_leave_it makes s q (Opened rows limit policy) other is = absurd other
