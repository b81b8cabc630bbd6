-- What holds a queue fits where its pipeline stands.
use Rattle.std.proofs.Common.{◌≡◌, ◌⊎◌, inl, inr, ⊎_elim, ℕ, zero, suc, ◌≤◌, ◌<◌, ◌+◌, nat_lt, Bool, true, false, if◌then◌else◌, List, [], ◌∷◌, ◌++◌, length, take, refl, sym, ap, ◌∙◌, subst, arith}
use Rattle.std.proofs.lemmas.Bool.{ltb-true, ltb-false, le-ltb, cases_eq}
use Rattle.std.proofs.lemmas.List.{length-take-le}
use Rattle.queue_page.specs.declared.row.PageRow.{PageRow}
use Rattle.queue_files.specs.Found.{Row, row_of, since}
use Rattle.queue_files.specs.Kept.{Page, Queue, all_rows, leading, first_open_of, IsSince, TopKept, RowsKept, AreNumbered, IsSound, Rising}
use Rattle.history_book.specs.Legal.{IsFound}
use Rattle.history_book.specs.Lists.{IsIn, Rise, AreBelow}
use Rattle.history_book.specs.Queues.{numbers_at, acknowledged_in, KeptFits}
use Rattle.history_book.specs.States.{Written, numbers_found, last_number}
use Rattle.history_book.proofs.Lists.{in_front, in_behind, in_either}
use Rattle.history_book.proofs.Numbers.{take_has}

-- ---- rows of a page

abbrev kept_of : PageRow → List Row → Bool → List Row
kept_of x rest b = if b then rest else row_of x ∷ rest

-- a row since a number is one of the page's, with such a number
pub record IsSinceRow (n : ℕ) (rows : List PageRow) (r : Row) : Type 0 where
  pub row : PageRow
  pub has : IsIn row rows
  pub is : r ≡ row_of row
  pub not_less : n ≤ row.number

since_behind : (n : ℕ) (x : PageRow) (rows : List PageRow) (r : Row) → IsSinceRow n rows r → IsSinceRow n (x ∷ rows) r
since_behind n x rows r s = record { row = s.row; has = inr s.has; is = s.is; not_less = s.not_less }

since_first : (n : ℕ) (x : PageRow) (rows : List PageRow) (r : Row) → (IsIn r (since n rows) → IsSinceRow n rows r) → (b : Bool) → nat_lt x.number n ≡ b → IsIn r (kept_of x (since n rows) b)
    → IsSinceRow n (x ∷ rows) r
since_first n x rows r rest true test i = since_behind n x rows r (rest i)
since_first n x rows r rest false test (inl e) = record { row = x; has = inl refl; is = e; not_less = ltb-false x.number n test }
since_first n x rows r rest false test (inr i) = since_behind n x rows r (rest i)

pub since_row : (n : ℕ) (rows : List PageRow) (r : Row) → IsIn r (since n rows) → IsSinceRow n rows r
since_row n [] r i = absurd i
since_row n (x ∷ rows) r i = since_first n x rows r (λ j. since_row n rows r j) (nat_lt x.number n) refl i

pub since_has : (n : ℕ) (rows : List PageRow) (p : PageRow) → IsIn p rows → n ≤ p.number → IsIn (row_of p) (since n rows)
since_has n [] p i not_less = absurd i
since_has n (x ∷ rows) p (inl e) not_less =
    subst (λ b. IsIn (row_of p) (kept_of x (since n rows) b)) (sym (le-ltb x.number n (let same = ap (λ (y : PageRow). y.number) e in omega (arith, same, not_less)))) (inl (ap row_of e))
since_has n (x ∷ rows) p (inr i) not_less = by_test (since_has n rows p i not_less) (nat_lt x.number n)
  where
    by_test : IsIn (row_of p) (since n rows) → (b : Bool) → IsIn (row_of p) (kept_of x (since n rows) b)
    by_test j true = j
    by_test j false = inr j

pub numbered_in : (k : ℕ) (rows : List PageRow) → AreNumbered k rows → (p : PageRow) → IsIn p rows → (k ≤ p.number) × (p.number < k + length rows)
numbered_in k [] are p i = absurd i
numbered_in k (x ∷ rows) are p (inl e) = let same = ap (λ (y : PageRow). y.number) e in let is = are.0 in (omega (arith, same, is), omega (arith, same, is))
numbered_in k (x ∷ rows) are p (inr i) = let rest = numbered_in (suc k) rows are.1 p i in (omega (arith, rest.0), omega (arith, rest.1))

take_numbered : (k c : ℕ) (rows : List PageRow) → AreNumbered k rows → AreNumbered k (take c rows)
take_numbered k zero rows are = tt
take_numbered k (suc c) [] are = tt
take_numbered k (suc c) (x ∷ rows) are = (are.0, take_numbered (suc k) c rows are.1)

take_in : (k c : ℕ) (rows : List PageRow) → AreNumbered k rows → (p : PageRow) → IsIn p rows → p.number < k + c → IsIn p (take c rows)
take_in k c [] are p i less = absurd i
take_in k zero (x ∷ rows) are p i less = absurd (let least = (numbered_in k (x ∷ rows) are p i).0 in omega (arith, least, less))
take_in k (suc c) (x ∷ rows) are p (inl e) less = inl e
take_in k (suc c) (x ∷ rows) are p (inr i) less = inr (take_in (suc k) c rows are.1 p i (omega (arith, less)))

-- the first numbers are acknowledged
leading_in : (k : ℕ) (acknowledged : List Bool) (n : ℕ) → k ≤ n → n < k + leading acknowledged → IsIn n (numbers_at k acknowledged)
leading_in k [] n least less = absurd (omega (arith, least, less))
leading_in k (false ∷ acknowledged) n least less = absurd (omega (arith, least, less))
leading_in k (true ∷ acknowledged) n least less =
    ⊎_elim (λ (e : n ≡ k). inl e) (λ (other : n ≡ k → ⊥). inr (leading_in (suc k) acknowledged n (omega (arith, least, other)) (omega (arith, less)))) (cases_eq n k)

-- ---- a page that a stop leaves, with some first ones of its rows

module _ (p : Page) (sound : IsSound p) (rows : List PageRow) (first : (x : PageRow) → IsIn x rows → IsIn x p.rows) (found : List Row) (since_p : IsSince p rows found) where
  -- what is found there was open
  pub page_open : (r : Row) → IsIn r found → IsIn r (since p.from p.rows)
  page_open r i = ⊎_elim (λ (e : found ≡ since p.from rows). by_from (since_row p.from rows r (subst (IsIn r) e i)))
      (λ (e : found ≡ since (first_open_of p) rows). by_open (since_row (first_open_of p) rows r (subst (IsIn r) e i))) since_p
    where
      has : (x : PageRow) → IsIn x rows → r ≡ row_of x → p.from ≤ x.number → IsIn r (since p.from p.rows)
      has x j is less = subst (λ y. IsIn y (since p.from p.rows)) (sym is) (since_has p.from p.rows x (first x j) less)

      by_from : IsSinceRow p.from rows r → IsIn r (since p.from p.rows)
      by_from s = has s.row s.has s.is s.not_less

      by_open : IsSinceRow (first_open_of p) rows r → IsIn r (since p.from p.rows)
      by_open s =
          let above = s.not_less in
          ⊎_elim (λ (less : p.from ≤ first_open_of p). has s.row s.has s.is (omega (arith, less, above)))
          (λ (all : p.least + length p.rows ≤ first_open_of p).
          absurd (let below = (numbered_in p.least p.rows sound.numbered s.row (first s.row s.has)).1 in omega (arith, all, above, below))) sound.from

  -- an open row among these is found, or acknowledged
  pub page_covers : (x : PageRow) → IsIn x rows → p.from ≤ x.number → IsIn (row_of x) found ⊎ IsIn x.number (numbers_at p.least p.acknowledged)
  page_covers x i above =
      ⊎_elim (λ (e : found ≡ since p.from rows). inl (subst (IsIn (row_of x)) (sym e) (since_has p.from rows x i above)))
      (λ (e : found ≡ since (first_open_of p) rows). by_test e (nat_lt x.number (first_open_of p)) refl) since_p
    where
      by_test : found ≡ since (first_open_of p) rows → (b : Bool) → nat_lt x.number (first_open_of p) ≡ b → IsIn (row_of x) found ⊎ IsIn x.number (numbers_at p.least p.acknowledged)
      by_test e true test =
          let least = (numbered_in p.least p.rows sound.numbered x (first x i)).0 in inr (leading_in p.least p.acknowledged x.number least (ltb-true x.number (first_open_of p) test))
      by_test e false test = inl (subst (IsIn (row_of x)) (sym e) (since_has (first_open_of p) rows x i (ltb-false x.number (first_open_of p) test)))

-- ---- numbers that rise

pub rise_less : (a b : ℕ) → a ≤ b → (ns : List ℕ) → Rise b ns → Rise a ns
rise_less a b less [] rise = tt
rise_less a b less (n ∷ ns) rise = (let first = rise.0 in omega (arith, less, first), rise.1)

below_more : (a b : ℕ) → a ≤ b → (ns : List ℕ) → AreBelow a ns → AreBelow b ns
below_more a b less [] below = tt
below_more a b less (n ∷ ns) below = (let first = below.0 in omega (arith, less, first), below_more a b less ns below.1)

-- the numbers of these rise from one on, up to below another
record Between (from end : ℕ) (rows : List Row) : Type 0 where
  rise : Rise from (numbers_found rows)
  below : AreBelow end (numbers_found rows)

first_between : (k n : ℕ) (x : PageRow) (rows : List PageRow) → x.number ≡ k → Between (suc k) (suc k + length rows) (since n rows) → (b : Bool)
    → Between k (k + suc (length rows)) (kept_of x (since n rows) b)
first_between k n x rows is rest true = record {
  rise = rise_less k (suc k) (omega arith) (numbers_found (since n rows)) rest.rise;
  below = below_more (suc k + length rows) (k + suc (length rows)) (omega arith) (numbers_found (since n rows)) rest.below;
}
first_between k n x rows is rest false = record {
  rise = (omega (arith, is), subst (λ m. Rise (suc m) (numbers_found (since n rows))) (sym is) rest.rise);
  below = (omega (arith, is), below_more (suc k + length rows) (k + suc (length rows)) (omega arith) (numbers_found (since n rows)) rest.below);
}

since_between : (k n : ℕ) (rows : List PageRow) → AreNumbered k rows → Between k (k + length rows) (since n rows)
since_between k n [] are = record { rise = tt; below = tt }
since_between k n (x ∷ rows) are = first_between k n x rows are.0 (since_between (suc k) n rows are.1) (nat_lt x.number n)

found_between : (p : Page) (rows : List PageRow) → AreNumbered p.least rows → (found : List Row) → IsSince p rows found → Between p.least (p.least + length rows) found
found_between p rows are found since_p =
    ⊎_elim (λ (e : found ≡ since p.from rows). subst (Between p.least (p.least + length rows)) (sym e) (since_between p.least p.from rows are))
    (λ (e : found ≡ since (first_open_of p) rows). subst (Between p.least (p.least + length rows)) (sym e) (since_between p.least (first_open_of p) rows are)) since_p

both_between : (a b c d : ℕ) (xs ys : List Row) → a ≤ c → b ≤ c → c ≤ d → Between a b xs → Between c d ys → Between a d (xs ++ ys)
both_between a b c d [] ys least less more front rest = record { rise = rise_less a c least (numbers_found ys) rest.rise; below = rest.below }
both_between a b c d (x ∷ xs) ys least less more front rest =
    let below_x = front.below.0 in
    let behind = both_between (suc x.number) b c d xs ys (omega (arith, below_x, less)) less more (record { rise = front.rise.1; below = front.below.1 }) rest in
    record { rise = (front.rise.0, behind.rise); below = (omega (arith, below_x, less, more), behind.below) }

last_below : (end : ℕ) (rows : List Row) → 0 < end → AreBelow end (numbers_found rows) → last_number rows < end
last_below end [] some below = some
last_below end (r ∷ []) some below = below.0
last_below end (r ∷ x ∷ rows) some below = last_below end (x ∷ rows) some below.1

-- ---- a queue that a stop leaves

module _ (q : Queue) where
  top_between : IsSound q.top → (rows : List Row) (next : ℕ) → TopKept q rows next → Between q.top.least next rows
  top_between sound rows next kept =
      subst (λ n. Between q.top.least n rows) (ap (λ n. q.top.least + n) (length-take-le kept.count q.top.rows kept.within) ∙ sym kept.next_is)
      (found_between q.top (take kept.count q.top.rows) (take_numbered q.top.least kept.count q.top.rows sound.numbered) rows kept.since)

  -- what is found has rising numbers, below the next one
  kept_between : (number end : ℕ) (tails : List Page) → Rising number end tails q.top → (rows : List Row) (next : ℕ) → RowsKept q tails rows next
      → Between end next rows × (q.top.least + q.marked ≤ next) × (next ≤ q.top.least + length q.top.rows) × (end ≤ q.top.least)
  kept_between number end [] rising rows next kept =
      let recorded = kept.recorded in
      let within = kept.within in
      let is = kept.next_is in
      let above = rising.1 in
      let top = top_between rising.2 rows next kept in
      (record { rise = rise_less end q.top.least above (numbers_found rows) top.rise; below = top.below }, omega (arith, recorded, is), omega (arith, within, is), above)
  kept_between number end (p ∷ tails) rising rows next kept =
      let sound = rising.3 in
      let above = rising.2 in
      let rest = kept_between (suc p.number) (p.least + length p.rows) tails rising.4 kept.1 next kept.4 in
      let page = found_between p p.rows sound.numbered kept.0 kept.3 in
      let page_more : Between end (p.least + length p.rows) kept.0 = record { rise = rise_less end p.least above (numbers_found kept.0) page.rise; below = page.below } in
      let last = rest.3 in
      let least = rest.1 in (
        subst (Between end next) (sym kept.2)
            (both_between end (p.least + length p.rows) (p.least + length p.rows) next kept.0 kept.1 (omega (arith, above)) (omega arith) (omega (arith, last, least)) page_more rest.0),
        rest.1,
        rest.2,
        omega (arith, above, last),
      )

  -- it was open
  kept_open : (number end : ℕ) (tails : List Page) → Rising number end tails q.top → (rows : List Row) (next : ℕ) → RowsKept q tails rows next → (r : Row) → IsIn r rows
      → IsIn r (all_rows tails q.top)
  kept_open number end [] rising rows next kept r i =
      page_open q.top rising.2 (take kept.count q.top.rows) (λ x j. take_has x kept.count q.top.rows j) rows kept.since r i
  kept_open number end (p ∷ tails) rising rows next kept r i =
      ⊎_elim (λ (j : IsIn r kept.0). in_front r (since p.from p.rows) (all_rows tails q.top) (page_open p rising.3 p.rows (λ x k. k) kept.0 kept.3 r j))
      (λ (j : IsIn r kept.1). in_behind r (since p.from p.rows) (all_rows tails q.top) (kept_open (suc p.number) (p.least + length p.rows) tails rising.4 kept.1 next kept.4 r j))
      (in_either r kept.0 kept.1 (subst (IsIn r) kept.2 i))

  -- an open row before the next number is found, or acknowledged
  kept_covers : (number end : ℕ) (tails : List Page) → Rising number end tails q.top → (rows : List Row) (next : ℕ) → RowsKept q tails rows next → (r : Row)
      → IsIn r (all_rows tails q.top) → r.number < next → IsIn r rows ⊎ IsIn r.number (acknowledged_in tails q.top)
  kept_covers number end [] rising rows next kept r i less = by_row (since_row q.top.from q.top.rows r i)
    where
      by_row : IsSinceRow q.top.from q.top.rows r → IsIn r rows ⊎ IsIn r.number (numbers_at q.top.least q.top.acknowledged)
      by_row s =
          let is = ap (λ (y : Row). y.number) s.is in
          let next_is = kept.next_is in
          let among = take_in q.top.least kept.count q.top.rows rising.2.numbered s.row s.has (omega (arith, is, less, next_is)) in
          subst (λ (y : Row). IsIn y rows ⊎ IsIn y.number (numbers_at q.top.least q.top.acknowledged)) (sym s.is)
          (page_covers q.top rising.2 (take kept.count q.top.rows) (λ x j. take_has x kept.count q.top.rows j) rows kept.since s.row among s.not_less)
  kept_covers number end (p ∷ tails) rising rows next kept r i less =
      ⊎_elim (λ (j : IsIn r (since p.from p.rows)). in_page (since_row p.from p.rows r j))
      (λ (j : IsIn r (all_rows tails q.top)). in_rest (kept_covers (suc p.number) (p.least + length p.rows) tails rising.4 kept.1 next kept.4 r j less))
      (in_either r (since p.from p.rows) (all_rows tails q.top) i)
    where
      back : IsIn r (kept.0 ++ kept.1) → IsIn r rows
      back j = subst (IsIn r) (sym kept.2) j

      in_page : IsSinceRow p.from p.rows r → IsIn r rows ⊎ IsIn r.number (numbers_at p.least p.acknowledged ++ acknowledged_in tails q.top)
      in_page s =
          ⊎_elim (λ (j : IsIn (row_of s.row) kept.0). inl (back (in_front r kept.0 kept.1 (subst (λ y. IsIn y kept.0) (sym s.is) j))))
          (λ (j : IsIn s.row.number (numbers_at p.least p.acknowledged)).
          inr (in_front r.number (numbers_at p.least p.acknowledged) (acknowledged_in tails q.top) (subst (λ (y : Row). IsIn y.number (numbers_at p.least p.acknowledged)) (sym s.is) j)))
          (page_covers p rising.3 p.rows (λ x k. k) kept.0 kept.3 s.row s.has s.not_less)

      in_rest : IsIn r kept.1 ⊎ IsIn r.number (acknowledged_in tails q.top) → IsIn r rows ⊎ IsIn r.number (numbers_at p.least p.acknowledged ++ acknowledged_in tails q.top)
      in_rest (inl j) = inl (back (in_behind r kept.0 kept.1 j))
      in_rest (inr j) = inr (in_behind r.number (numbers_at p.least p.acknowledged) (acknowledged_in tails q.top) j)

pub kept_fits : KeptFits
kept_fits s q folder is kept = record {
  rows = record {
    known = λ r i. is.known r (kept_open q 0 0 q.tails is.is kept.held.rows kept.held.next kept.kept r i);
    rise = between.0.rise;
    settled = λ w i less. let front = is.settled in let least = between.1 in found_or_acknowledged w i (omega (arith, less, front, least));
    before = λ w r i j less. let behind = below_in r j in found_or_acknowledged w i (omega (arith, less, behind));
  };
  behind = let front = is.settled in let least = between.1 in let last = last_below kept.held.next kept.held.rows (omega (arith, front, least)) between.0.below in omega (arith, front, least, last);
  within = let most = between.2 in let high = is.high in omega (arith, most, high);
  recorded = let front = is.settled in let least = kept.recorded.0 in omega (arith, front, least);
}
  where
    between : Between 0 kept.held.next kept.held.rows × (q.top.least + q.marked ≤ kept.held.next) × (kept.held.next ≤ q.top.least + length q.top.rows) × (0 ≤ q.top.least)
    between = kept_between q 0 0 q.tails is.is kept.held.rows kept.held.next kept.kept

    below_found : (end : ℕ) (rows : List Row) → AreBelow end (numbers_found rows) → (r : Row) → IsIn r rows → r.number < end
    below_found end [] below r i = absurd i
    below_found end (x ∷ rows) below r (inl e) = let same = ap (λ (y : Row). y.number) e in let less = below.0 in omega (arith, same, less)
    below_found end (x ∷ rows) below r (inr i) = below_found end rows below.1 r i

    below_in : (r : Row) → IsIn r kept.held.rows → r.number < kept.held.next
    below_in r i = below_found kept.held.next kept.held.rows between.0.below r i

    found_or_acknowledged : (w : Written) → IsIn w s.rows → w.number < kept.held.next → IsFound kept.held.rows w ⊎ IsIn w.number s.acknowledged
    found_or_acknowledged w i less = ⊎_elim by_open (λ (acked : IsIn w.number s.acknowledged). inr acked) (is.kept w i)
      where
        by_open : IsFound (all_rows q.tails q.top) w → IsFound kept.held.rows w ⊎ IsIn w.number s.acknowledged
        by_open f =
            let same = f.2.number in
            ⊎_elim (λ (j : IsIn f.0 kept.held.rows). inl (f.0, j, f.2)) (λ (j : IsIn f.0.number (acknowledged_in q.tails q.top)). inr (is.acknowledged w i (subst (λ n. IsIn n (acknowledged_in q.tails q.top)) same j)))
            (kept_covers q 0 0 q.tails is.is kept.held.rows kept.held.next kept.kept f.0 f.1 (omega (arith, same, less)))
