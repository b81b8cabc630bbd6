-- The rows that are read of the pages of a queue for a batch are its next ones.
use Rattle.std.proofs.Common.{◌≡◌, ◌⊎◌, ⊎_elim, inl, inr, ℕ, suc, ◌+◌, ◌-◌, ◌<◌, ◌≤◌, ◌==◌, ◌||◌, not, nat_lt, Bool, true, false, List, [], ◌∷◌, ◌++◌, length, map, drop, Ok, refl, sym, ap, ◌∙◌, subst, arith, append_assoc, append-nil, length-drop}
use Rattle.std.proofs.lemmas.Bool.{cond-true, cond-false, cases_lt, cases_Bool, true≢false}
use Rattle.std.proofs.lemmas.Bool.Decides.{nat_tests}
use Rattle.std.proofs.lemmas.List.{drop-drop}
use Rattle.io_traits.specs.Folders.{Content}
use Rattle.io_traits.specs.Reads.{bytes_of}
use Rattle.queue_page.specs.Blocks.{left_of}
use Rattle.queue_page.specs.Grammar.{AreElements}
use Rattle.queue_page.specs.declared.row.PageRow.{PageRow}
use Rattle.queue_files.specs.Found.{Row, since}
use Rattle.queue_core.specs.Batching.{is_over, rows_read}
use Rattle.queue_core.specs.Calls.{end_of, is_spent}
use Rattle.queue_core.specs.NextBatch.{StandsAt, RowsStand, AllStand, Rise, left_in, unread_rows_in}
use Rattle.queue_core.specs.Taking.{Stand, stand, at_first, entered, is_passed, rows_of, page_read, pages_read}
use Rattle.queue_core.specs.Unread.{told, taken, taken_on}
use Rattle.queue_core.specs.Views.{OpenPageView}
use Rattle.queue_core.specs.declared.page_rows.BatchReader.{BatchReader}
use Rattle.queue_core.proofs.NextRows.{Reads, next_rows, nothing_on, still_on}
use Rattle.queue_core.proofs.PagesRead.{page_found, page_passed, page_then}

-- ---- lists and tests

or_true : (b : Bool) → b || true ≡ true
or_true true = refl
or_true false = refl

or_left : (a b : Bool) → a || b ≡ false → a ≡ false
or_left true b is = is
or_left false b is = refl

or_right : (a b : Bool) → a || b ≡ false → b ≡ false
or_right true b is = absurd (true≢false is)
or_right false b is = is

with_rest : (a b x y rest : List Row) → a ++ x ≡ b ++ y → a ++ (x ++ rest) ≡ b ++ (y ++ rest)
with_rest a b x y rest same = sym (append_assoc a x rest) ∙ ap (λ (l : List Row). l ++ rest) same ∙ append_assoc b y rest

none_since : (version number place from : ℕ) (rows : List PageRow) (bytes : List ℕ) → AreElements version number place rows bytes → number + length rows ≤ from → since from rows ≡ []
none_since version number place from [] bytes els below = refl
none_since version number place from (row ∷ rows) bytes els below =
    let t : nat_lt row.number from ≡ true = grind (arith, nat_tests, els.3, below) in
    cond-true _ _ _ t ∙ none_since version (number + 1) row.next from rows els.1 els.5 (omega (arith, below))

-- a batch that is over takes none of further rows
over_none : (r : BatchReader) → is_over r ≡ true → (more : List Row) → taken_on r more ≡ []
over_none r over more = elim (cases_Bool r.closed) [
  | inl closed ↦ cond-true _ _ _ closed
  | inr still ↦ cond-false _ _ _ still ∙ elim (cases_lt (length r.rows) r.most_rows) [
    | inl less ↦
        let t : nat_lt (length r.rows) r.most_rows ≡ true = grind (arith, nat_tests, less) in
        absurd (true≢false (sym over ∙ ap (λ b. b || not (nat_lt (length r.rows) r.most_rows)) still ∙ ap not t))
    | inr all ↦ let none : r.most_rows - length r.rows ≡ 0 = omega (arith, all) in ap (λ n. taken r.most_bytes n r.bytes more) none
  ]
]

closed_not : (r : BatchReader) → is_over r ≡ false → r.closed ≡ false
closed_not r not_over = or_left r.closed (not (nat_lt (length r.rows) r.most_rows)) not_over

-- ---- one page

module _ (content : Content) (o : OpenPageView) (rows : List PageRow) where
  abbrev file : List ℕ
  file = bytes_of (content o.file)

  -- what is read of a page, and what is left of it
  pub record PageReads (s : Stand) : Type 0 where
    pub next : Stand
    pub is : page_read content o s ≡ Ok next
    pub page : (next ≡ s) ⊎ ((next.page ≡ o.number) × (s.page ≤ o.number))
    pub stands : RowsStand content next o rows
    pub given : map told next.reading.rows ++ since o.from (left_in next o rows) ≡ map told s.reading.rows ++ since o.from (left_in s o rows)
    pub goes_on : (more : List Row) → map told s.reading.rows ++ taken_on s.reading (since o.from (left_in s o rows) ++ more) ≡ map told next.reading.rows ++ taken_on next.reading more
    pub all : is_over next.reading ≡ false → since o.from (left_in next o rows) ≡ []

  -- nothing is read of it
  page_stays : (s : Stand) → RowsStand content s o rows → is_passed o s ≡ true → ((more : List Row) → taken_on s.reading (since o.from (left_in s o rows) ++ more) ≡ taken_on s.reading more)
      → (is_over s.reading ≡ false → since o.from (left_in s o rows) ≡ []) → PageReads s
  page_stays s stands passed none all = record {
    next = s;
    is = page_passed content o s passed;
    page = inl refl;
    stands = stands;
    given = refl;
    goes_on = λ more. ap (λ (l : List Row). map told s.reading.rows ++ l) (none more);
    all = all;
  }

  page_none : (s : Stand) → RowsStand content s o rows → is_passed o s ≡ true → since o.from (left_in s o rows) ≡ [] → PageReads s
  page_none s stands passed none = page_stays s stands passed (λ more. ap (λ (l : List Row). taken_on s.reading (l ++ more)) none) (λ not_over. none)

  -- it is read on from this row
  module _ (s : Stand) (r : BatchReader) (stands : RowsStand content s o rows) (goes_on : is_passed o s ≡ false) (is : r ≡ entered o s) (above : s.page ≤ o.number) (here : StandsAt o rows (bytes_of (content o.file)) r.number r.place)
      (left_is : left_in s o rows ≡ drop (r.number - o.page.state.least) rows) (same_rows : map told r.rows ≡ map told s.reading.rows) (same_on : (more : List Row) → taken_on r more ≡ taken_on s.reading more) (still : r.closed ≡ false) where
    abbrev tail : List PageRow
    tail = drop (r.number - o.page.state.least) rows

    read : Reads o.file o.page o.from (bytes_of (content o.file)) stands.long (drop (r.number - o.page.state.least) rows) r
    read = next_rows o.file o.page o.from (bytes_of (content o.file)) stands.long (drop (r.number - o.page.state.least) rows) r still here.within here.are

    is_read : rows_of content o r ≡ Ok read.next
    is_read = let count : end_of o - r.number ≡ length (drop (r.number - o.page.state.least) rows) = omega (arith, here.count) in
        ap (λ n. rows_read o.file o.page o.from (bytes_of (content o.file)) n r) count ∙ read.is

    left_behind : drop read.on.count (drop (r.number - o.page.state.least) rows) ≡ drop (read.next.number - o.page.state.least) rows
    left_behind =
        let e : r.number - o.page.state.least + read.on.count ≡ read.next.number - o.page.state.least = omega (arith, read.on.number, here.behind) in
        drop-drop read.on.count (r.number - o.page.state.least) rows ∙ ap (λ n. drop n rows) e

    stands_then : StandsAt o rows (bytes_of (content o.file)) read.next.number read.next.place
    stands_then = record {
      within = read.on.within;
      behind = omega (arith, here.behind, read.on.number);
      count = omega (arith, here.count, read.on.number, read.on.few, ap length left_behind, length-drop read.on.count (drop (r.number - o.page.state.least) rows));
      are = subst (λ (l : List PageRow). AreElements o.page.version read.next.number read.next.place l (left_of (bytes_of (content o.file)) read.next.place o.page.state.length)) left_behind read.on.left;
    }

    left_then : left_in (stand o.number read.next) o rows ≡ drop read.on.count (drop (r.number - o.page.state.least) rows)
    left_then =
        let t : nat_lt o.number o.number ≡ false = grind (arith, nat_tests) in
        let u : (o.number == o.number) ≡ true = grind (arith, nat_tests) in
        cond-false _ _ _ t ∙ cond-true _ _ _ u ∙ sym left_behind

    pub page_reads : PageReads s
    page_reads = record {
      next = stand o.number read.next;
      is = page_found content o s (Ok r) r read.next o.number goes_on is refl is_read;
      page = inr (refl, above);
      stands = record { long = stands.long; first = stands.first; here = λ here. stands_then };
      given = ap (λ (l : List PageRow). map told read.next.rows ++ since o.from l) left_then ∙ read.on.given ∙ ap (λ (l : List Row). l ++ since o.from (drop (r.number - o.page.state.least) rows)) same_rows
          ∙ ap (λ (l : List PageRow). map told s.reading.rows ++ since o.from l) (sym left_is);
      goes_on = λ more. ap (λ (l : List PageRow). map told s.reading.rows ++ taken_on s.reading (since o.from l ++ more)) left_is
          ∙ ap (λ (l : List Row). l ++ taken_on s.reading (since o.from (drop (r.number - o.page.state.least) rows) ++ more)) (sym same_rows)
          ∙ ap (λ (l : List Row). map told r.rows ++ l) (sym (same_on (since o.from (drop (r.number - o.page.state.least) rows) ++ more)) ∙ still_on r still (since o.from (drop (r.number - o.page.state.least) rows) ++ more))
          ∙ read.on.goes_on more;
      all = λ not_over. ap (since o.from) (left_then ∙ read.on.all not_over);
    }

  -- a page of which all rows are recorded as acknowledged has none from the next row on that isn't
  spent_left : (s : Stand) → RowsStand content s o rows → is_spent o ≡ true → since o.from (left_in s o rows) ≡ []
  spent_left s stands spent = elim (cases_Bool (nat_lt o.number s.page)) [
    | inl below ↦ ap (since o.from) (cond-true _ _ _ below)
    | inr above ↦ ap (since o.from) (cond-false _ _ _ above) ∙ elim (cases_Bool (o.number == s.page)) [
      | inl this ↦
          let same : s.page ≡ o.number = grind (arith, nat_tests, this) in
          ap (since o.from) (cond-true _ _ _ this) ∙ none_of s.reading.number s.reading.place (stands.here same)
      | inr other ↦
          let none : o.page.state.least - o.page.state.least ≡ 0 = omega arith in
          ap (since o.from) (cond-false _ _ _ other) ∙ ap (λ n. since o.from (drop n rows)) (sym none) ∙ none_of o.page.state.least 1 stands.first
    ]
  ]
    where
      none_of : (number place : ℕ) → StandsAt o rows (bytes_of (content o.file)) number place → since o.from (drop (number - o.page.state.least) rows) ≡ []
      none_of number place at =
          let far : end_of o ≤ o.from = grind (arith, nat_tests, spent) in
          none_since o.page.version number place o.from (drop (number - o.page.state.least) rows) (left_of (bytes_of (content o.file)) place o.page.state.length) at.are (omega (arith, far, at.count))

  one_page : (s : Stand) → RowsStand content s o rows → PageReads s
  one_page s stands = elim (cases_Bool (nat_lt o.number s.page)) [
    | inl below ↦ page_none s stands (ap (λ b. (b || is_spent o) || is_over s.reading) below) (ap (since o.from) (cond-true _ _ _ below))
    | inr above ↦ elim (cases_Bool (is_spent o)) [
      | inl spent ↦ page_none s stands (ap (λ b. (b || is_spent o) || is_over s.reading) above ∙ ap (λ b. b || is_over s.reading) spent) (spent_left s stands spent)
      | inr unspent ↦ elim (cases_Bool (is_over s.reading)) [
        | inl over ↦ page_stays s stands (ap (λ b. (nat_lt o.number s.page || is_spent o) || b) over ∙ or_true (nat_lt o.number s.page || is_spent o))
            (λ more. over_none s.reading over (since o.from (left_in s o rows) ++ more) ∙ sym (over_none s.reading over more)) (λ not_over. absurd (true≢false (sym over ∙ not_over)))
        | inr not_over ↦ by above (ap (λ b. (b || is_spent o) || is_over s.reading) above ∙ ap (λ b. b || is_over s.reading) unspent ∙ not_over) (closed_not s.reading not_over)
      ]
    ]
  ]
    where
      by : nat_lt o.number s.page ≡ false → is_passed o s ≡ false → s.reading.closed ≡ false → PageReads s
      by above goes_on still =
          let after : s.page ≤ o.number = grind (arith, nat_tests, above) in
          elim (cases_Bool (o.number == s.page)) [
            | inl this ↦
                let same : s.page ≡ o.number = grind (arith, nat_tests, this) in
                page_reads s s.reading stands goes_on (sym (cond-true _ _ _ this)) after (stands.here same) (cond-false _ _ _ above ∙ cond-true _ _ _ this) refl (λ more. refl) still
            | inr other ↦
                let none : o.page.state.least - o.page.state.least ≡ 0 = omega arith in
                page_reads s (at_first o s.reading) stands goes_on (sym (cond-false _ _ _ other)) after stands.first (cond-false _ _ _ above ∙ cond-false _ _ _ other ∙ ap (λ n. drop n rows) (sym none)) refl (λ more. refl) still
          ]

-- ---- all pages

module _ (content : Content) where
  all_over : (pages : List OpenPageView) (s : Stand) → is_over s.reading ≡ true → pages_read content pages s ≡ Ok s
  all_over [] s over = refl
  all_over (o ∷ pages) s over =
      page_then content o pages s s (page_passed content o s (ap (λ b. (nat_lt o.number s.page || is_spent o) || b) over ∙ or_true (nat_lt o.number s.page || is_spent o))) ∙ all_over pages s over

  -- of pages above two others, the rows are all left, wherever the next row stands in those
  later_left : (from : ℕ) (pages : List OpenPageView) (rows : List (List PageRow)) (s next : Stand) → Rise from pages → s.page < from → next.page < from → unread_rows_in next pages rows ≡ unread_rows_in s pages rows
  later_left from [] rows s next rise less less_then = refl
  later_left from (o ∷ pages) [] s next rise less less_then = refl
  later_left from (o ∷ pages) (rows ∷ others) s next rise less less_then =
      ap (λ (l : List PageRow). since o.from l ++ unread_rows_in next pages others) (all_left next less_then ∙ sym (all_left s less))
      ∙ ap (λ (l : List Row). since o.from (left_in s o rows) ++ l) (later_left (suc o.number) pages others s next rise.1 (omega (arith, less, rise.0)) (omega (arith, less_then, rise.0)))
    where
      all_left : (x : Stand) → x.page < from → left_in x o rows ≡ rows
      all_left x below =
          let t : nat_lt o.number x.page ≡ false = grind (arith, nat_tests, below, rise.0) in
          let u : (o.number == x.page) ≡ false = grind (arith, nat_tests, below, rise.0) in
          cond-false _ _ _ t ∙ cond-false _ _ _ u

  later_stand : (from : ℕ) (pages : List OpenPageView) (rows : List (List PageRow)) (s next : Stand) → Rise from pages → next.page < from → AllStand content s pages rows → AllStand content next pages rows
  later_stand from [] [] s next rise less stands = tt
  later_stand from [] (rows ∷ others) s next rise less stands = elim stands [ ]
  later_stand from (o ∷ pages) [] s next rise less stands = elim stands [ ]
  later_stand from (o ∷ pages) (rows ∷ others) s next rise less stands = (
    record { long = stands.0.long; first = stands.0.first; here = λ is. absurd (omega (arith, is, less, rise.0)) },
    later_stand (suc o.number) pages others s next rise.1 (omega (arith, less, rise.0)) stands.1,
  )

  pub record BatchReads (from : ℕ) (pages : List OpenPageView) (rows : List (List PageRow)) (s : Stand) : Type 0 where
    pub next : Stand
    pub is : pages_read content pages s ≡ Ok next
    pub reach : (next ≡ s) ⊎ (from ≤ next.page)
    pub stands : AllStand content next pages rows
    pub given : map told next.reading.rows ++ unread_rows_in next pages rows ≡ map told s.reading.rows ++ unread_rows_in s pages rows
    pub goes_on : (more : List Row) → map told s.reading.rows ++ taken_on s.reading (unread_rows_in s pages rows ++ more) ≡ map told next.reading.rows ++ taken_on next.reading more

  -- the first page and then the others
  module _ (from : ℕ) (o : OpenPageView) (pages : List OpenPageView) (rows : List PageRow) (others : List (List PageRow)) (s : Stand) (rise : Rise from (o ∷ pages)) (stands : AllStand content s (o ∷ pages) (rows ∷ others))
      (step : PageReads content o rows s) where
    later : unread_rows_in step.next pages others ≡ unread_rows_in s pages others
    later = ⊎_elim
        (λ same. ap (λ (x : Stand). unread_rows_in x pages others) same)
        (λ here. later_left (suc o.number) pages others s step.next rise.1 (omega (arith, here.1)) (omega (arith, here.0)))
        step.page

    stand_later : AllStand content step.next pages others
    stand_later = ⊎_elim
        (λ same. subst (λ (x : Stand). AllStand content x pages others) (sym same) stands.1)
        (λ here. later_stand (suc o.number) pages others s step.next rise.1 (omega (arith, here.0)) stands.1)
        step.page

    reached : (step.next ≡ s) ⊎ (from ≤ step.next.page)
    reached = ⊎_elim (λ same. inl same) (λ here. inr (omega (arith, here.0, rise.0))) step.page

    first_goes_on : (more : List Row) → map told s.reading.rows ++ taken_on s.reading (unread_rows_in s (o ∷ pages) (rows ∷ others) ++ more)
        ≡ map told step.next.reading.rows ++ taken_on step.next.reading (unread_rows_in step.next pages others ++ more)
    first_goes_on more =
        ap (λ (l : List Row). map told s.reading.rows ++ taken_on s.reading l) (append_assoc (since o.from (left_in s o rows)) (unread_rows_in s pages others) more)
        ∙ step.goes_on (unread_rows_in s pages others ++ more) ∙ ap (λ (l : List Row). map told step.next.reading.rows ++ taken_on step.next.reading (l ++ more)) (sym later)

    first_given : map told step.next.reading.rows ++ (since o.from (left_in step.next o rows) ++ unread_rows_in step.next pages others) ≡ map told s.reading.rows ++ unread_rows_in s (o ∷ pages) (rows ∷ others)
    first_given = ap (λ (l : List Row). map told step.next.reading.rows ++ (since o.from (left_in step.next o rows) ++ l)) later
        ∙ with_rest (map told step.next.reading.rows) (map told s.reading.rows) (since o.from (left_in step.next o rows)) (since o.from (left_in s o rows)) (unread_rows_in s pages others) step.given

    pub batch_ends : is_over step.next.reading ≡ true → BatchReads from (o ∷ pages) (rows ∷ others) s
    batch_ends over = record {
      next = step.next;
      is = page_then content o pages s step.next step.is ∙ all_over pages step.next over;
      reach = reached;
      stands = (step.stands, stand_later);
      given = first_given;
      goes_on = λ more. first_goes_on more
          ∙ ap (λ (l : List Row). map told step.next.reading.rows ++ l) (over_none step.next.reading over (unread_rows_in step.next pages others ++ more) ∙ sym (over_none step.next.reading over more));
    }

    module _ (not_over : is_over step.next.reading ≡ false) (rest : BatchReads (suc o.number) pages others step.next) where
      none_left : since o.from (left_in rest.next o rows) ≡ []
      none_left = ⊎_elim
          (λ same. ap (λ (x : Stand). since o.from (left_in x o rows)) same ∙ step.all not_over)
          (λ far. let t : nat_lt o.number rest.next.page ≡ true = grind (arith, nat_tests, far) in ap (since o.from) (cond-true _ _ _ t))
          rest.reach

      first_stands : RowsStand content rest.next o rows
      first_stands = ⊎_elim
          (λ same. subst (λ (x : Stand). RowsStand content x o rows) (sym same) step.stands)
          (λ far. record { long = step.stands.long; first = step.stands.first; here = λ is. absurd (omega (arith, is, far)) })
          rest.reach

      reached_then : (rest.next ≡ s) ⊎ (from ≤ rest.next.page)
      reached_then = ⊎_elim
          (λ same. ⊎_elim (λ yet. inl (same ∙ yet)) (λ far. inr (omega (arith, far, ap (λ (x : Stand). x.page) same))) reached)
          (λ far. inr (omega (arith, far, rise.0)))
          rest.reach

      pub batch_goes_on : BatchReads from (o ∷ pages) (rows ∷ others) s
      batch_goes_on = record {
        next = rest.next;
        is = page_then content o pages s step.next step.is ∙ rest.is;
        reach = reached_then;
        stands = (first_stands, rest.stands);
        given = ap (λ (l : List Row). map told rest.next.reading.rows ++ (l ++ unread_rows_in rest.next pages others)) none_left ∙ rest.given
            ∙ ap (λ (l : List Row). map told step.next.reading.rows ++ (l ++ unread_rows_in step.next pages others)) (sym (step.all not_over)) ∙ first_given;
        goes_on = λ more. first_goes_on more ∙ rest.goes_on more;
      }

  pub batch_reads : (from : ℕ) (pages : List OpenPageView) (rows : List (List PageRow)) (s : Stand) → Rise from pages → AllStand content s pages rows → BatchReads from pages rows s
  batch_reads from [] [] s rise stands = record { next = s; is = refl; reach = inl refl; stands = tt; given = refl; goes_on = λ more. refl }
  batch_reads from [] (rows ∷ others) s rise stands = elim stands [ ]
  batch_reads from (o ∷ pages) [] s rise stands = elim stands [ ]
  batch_reads from (o ∷ pages) (rows ∷ others) s rise stands = by (one_page content o rows s stands.0) (λ next. batch_reads (suc o.number) pages others next rise.1)
    where
      by : (step : PageReads content o rows s) → ((next : Stand) → AllStand content next pages others → BatchReads (suc o.number) pages others next) → BatchReads from (o ∷ pages) (rows ∷ others) s
      by step again = elim (cases_Bool (is_over step.next.reading)) [
        | inl over ↦ batch_ends from o pages rows others s rise stands step over
        | inr not_over ↦ batch_goes_on from o pages rows others s rise stands step not_over (again step.next (stand_later from o pages rows others s rise stands step))
      ]

  -- those that the batch has then
  pub batch_got : (pages : List OpenPageView) (rows : List (List PageRow)) (s next : Stand) → s.reading.closed ≡ false
      → ((more : List Row) → map told s.reading.rows ++ taken_on s.reading (unread_rows_in s pages rows ++ more) ≡ map told next.reading.rows ++ taken_on next.reading more)
      → map told next.reading.rows ≡ map told s.reading.rows ++ taken s.reading.most_bytes (s.reading.most_rows - length s.reading.rows) s.reading.bytes (unread_rows_in s pages rows)
  batch_got pages rows s next still goes_on =
      sym (append-nil (map told next.reading.rows)) ∙ ap (λ l. map told next.reading.rows ++ l) (sym (nothing_on next.reading)) ∙ sym (goes_on [])
      ∙ ap (λ (l : List Row). map told s.reading.rows ++ taken_on s.reading l) (append-nil (unread_rows_in s pages rows)) ∙ ap (λ (l : List Row). map told s.reading.rows ++ l) (still_on s.reading still (unread_rows_in s pages rows))
