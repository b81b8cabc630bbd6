-- A run of elements of a page, step by step.
use Rattle.std.proofs.Common.{◌≡◌, ◌≤◌, ⊎_elim, ℕ, zero, suc, ◌+◌, ◌-◌, ◌<◌, ◌^◌, min, Bool, true, false, List, [], ◌∷◌, length, drop, Option, Some, None, Ok, Err, if◌then◌else◌, refl, sym, ◌∙◌, ap, subst, arith}
use Rattle.std.proofs.Math.Path.{ap₂}
use Rattle.std.proofs.lemmas.Bool.{cases_lt}
use Rattle.std.proofs.lemmas.List.{take_all}
use Rattle.queue_page.specs.Blocks.{IsPart, left_of}
use Rattle.queue_page.specs.Elements.{element_at, number_of, total_of}
use Rattle.queue_page.specs.Pages.{is_version, row_at, version_of, whole_page}
use Rattle.queue_page.specs.Runs.{Run, run}
use Rattle.queue_page.specs.Views.{PageBufferView, PageView}
use Rattle.queue_page.specs.declared.row.PageRow.{PageRow}
use Rattle.queue_page.proofs.ElementReads.{element_took}
use Rattle.queue_page.proofs.Fronts.{length-left}
use Rattle.queue_page.proofs.RunReads.{left_more, run_empty, run_none, run_with}
use Rattle.pq_tools.specs.PageRuns.{FirstIs, IsFirstRun, IsNextRow, IsRun, rows_left, run_from}
use Rattle.pq_tools.specs.Salvage.{most_in, rows_in}
use Rattle.pq_tools.specs.declared.salvaging.PageRun.{PageRun}

-- ---- the next row

-- a run goes by its number only where an element may come
same_run : (limit version n m place : ℕ) (bytes : List ℕ) → (0 < limit → m ≡ n) → run limit version m place bytes ≡ run limit version n place bytes
same_run zero version n m place bytes same = run_none version m place bytes ∙ sym (run_none version n place bytes)
same_run (suc limit) version n m place bytes same = ap (λ k. run (suc limit) version k place bytes) (same (omega arith))

module _ (file : List ℕ) (old : PageRun) where
  abbrev bytes : List ℕ
  bytes = left_of file old.place old.page.state.length

  pub none_left : old.left ≡ 0 → rows_left file old ≡ []
  none_left none = ap (λ l. (run l old.page.version old.number old.place bytes).rows) none ∙ ap (λ (r : Run). r.rows) (run_none old.page.version old.number old.place bytes)

  pub at_end : IsRun file old → old.page.state.length ≤ old.place → rows_left file old ≡ []
  at_end is past =
      let none : length bytes ≡ 0 = omega (arith, length-left file old.place old.page.state.length (omega (arith, is.whole)), past) in
      ap (λ (r : Run). r.rows) (run_empty old.left old.page.version old.number old.place bytes none)

  module _ (is : IsRun file old) (some : 0 < old.left) (before : old.place < old.page.state.length) where
    some_bytes : 0 < length bytes
    some_bytes = omega (arith, length-left file old.place old.page.state.length (omega (arith, is.whole)), before)

    one_more : old.left ≡ suc (old.left - 1)
    one_more = omega (arith, some)

    pub no_row : (m : _) → element_at old.page.version old.number old.place bytes ≡ Err m → rows_left file old ≡ []
    no_row m read =
        ap (λ l. (run l old.page.version old.number old.place bytes).rows) one_more
        ∙ ap (λ (r : Run). r.rows) (run_with (old.left - 1) old.page.version old.number old.place bytes (Err m) some_bytes read)

    pub one_row : (row : PageRow) (block : PageBufferView) (m : ℕ) → element_at old.page.version old.number old.place bytes ≡ Ok row → IsPart file block → (old.number + 1 < 2 ^ 64 → m ≡ old.number + 1) → m < 2 ^ 64
        → row.next ≤ old.page.state.length → IsNextRow file old (record { page = old.page; block = block; place = row.next; number = m; left = old.left - 1 }) row
    one_row row block m read part next fits within =
        let took = element_took old.page.version old.number old.place bytes row read in
        let limit = old.left - 1 in
        let there : drop (total_of bytes) bytes ≡ left_of file row.next old.page.state.length =
        left_more file old.place old.page.state.length (total_of bytes) ∙ ap (λ p. left_of file p old.page.state.length) (sym took.next) in
        let few : 0 < limit → m ≡ old.number + 1 = λ more. next (omega (arith, more, is.numbers)) in
        record {
          is = record { whole = is.whole; part = part; within = within; numbers = ⊎_elim (λ more. omega (arith, few more, is.numbers)) (λ none. omega (arith, fits, none)) (cases_lt 0 limit) };
          left = omega (arith, some);
          number = took.row_number;
          rows = ap (λ l. (run l old.page.version old.number old.place bytes).rows) one_more
              ∙ ap (λ (r : Run). r.rows) (run_with limit old.page.version old.number old.place bytes (Ok row) some_bytes read)
              ∙ ap (λ l. row ∷ l) (ap₂ (λ (p : ℕ) (b : List ℕ). (run limit old.page.version (old.number + 1) p b).rows) (sym took.next) there
              ∙ sym (ap (λ (r : Run). r.rows) (same_run limit old.page.version (old.number + 1) m row.next (left_of file row.next old.page.state.length) few)));
        }

-- ---- the first row

module _ (file : List ℕ) where
  pub no_page : whole_page file ≡ None → rows_in file ≡ []
  unfolding rows_in
  no_page none = by (is_version (version_of file)) none
    where
      by : (b : Bool) → ◌≡◌ {A = Option PageView} (if b then Some (record { version = version_of file; state = record { page = 0; first_open = 0; least = 0; count = 0; length = length file } }) else None) None
          → (if b then (run (most_in file) (version_of file) (number_of (drop 1 file)) 1 (drop 1 file)).rows else []) ≡ []
      by true is = absurd cc
      by false is = refl

  -- a page of a version
  pub record IsWhole (page : PageView) : Type 0 where
    pub version : page.version ≡ version_of file
    pub long : page.state.length ≡ length file
    pub rows : rows_in file ≡ (run (most_in file) page.version (number_of (drop 1 file)) 1 (left_of file 1 page.state.length)).rows

  pub is_whole : (page : PageView) → whole_page file ≡ Some page → IsWhole page
  unfolding rows_in
  is_whole page some = let parts = by (is_version (version_of file)) some in record { version = parts.0; long = parts.1; rows = parts.2 }
    where
      page_same : {x y : PageView} → ◌≡◌ {A = Option PageView} (Some x) (Some y) → x ≡ y
      page_same is = cc

      whole : (n : ℕ) → n ≡ length file → left_of file 1 n ≡ drop 1 file
      whole n long = ap (drop 1) (take_all n file (omega (arith, long)))

      by : (b : Bool) → ◌≡◌ {A = Option PageView} (if b then Some (record { version = version_of file; state = record { page = 0; first_open = 0; least = 0; count = 0; length = length file } }) else None) (Some page)
          → (page.version ≡ version_of file) × (page.state.length ≡ length file)
          × ((if b then (run (most_in file) (version_of file) (number_of (drop 1 file)) 1 (drop 1 file)).rows else []) ≡ (run (most_in file) page.version (number_of (drop 1 file)) 1 (left_of file 1 page.state.length)).rows)
      by false is = absurd cc
      by true is =
          let same = page_same is in
          let version : page.version ≡ version_of file = sym (ap (λ (p : PageView). p.version) same) in
          let long : page.state.length ≡ length file = sym (ap (λ (p : PageView). p.state.length) same) in (
            version,
            long,
            ap₂ (λ (v : ℕ) (b : List ℕ). (run (most_in file) v (number_of (drop 1 file)) 1 b).rows) (sym version) (sym (whole page.state.length long)),
          )

  -- where its first element is at fault
  no_rows : (limit version number place : ℕ) (bytes : List ℕ) (m : _) → element_at version number place bytes ≡ Err m → (run limit version number place bytes).rows ≡ []
  no_rows zero version number place bytes m read = ap (λ (r : Run). r.rows) (run_none version number place bytes)
  no_rows (suc limit) version number place bytes m read = ⊎_elim
      (λ some. ap (λ (r : Run). r.rows) (run_with limit version number place bytes (Err m) some read))
      (λ empty. ap (λ (r : Run). r.rows) (run_empty (suc limit) version number place bytes (omega (arith, empty))))
      (cases_lt 0 (length bytes))

  module _ (page : PageView) (is : IsWhole page) where
    abbrev front : List ℕ
    front = left_of file 1 page.state.length

    front_is : front ≡ drop 1 file
    front_is = ap (drop 1) (take_all page.state.length file (omega (arith, is.long)))

    number_is : number_of front ≡ number_of (drop 1 file)
    number_is = ap number_of front_is

    pub no_first : (m : _) → row_at page 1 file ≡ Err m → rows_in file ≡ []
    no_first m read =
        is.rows ∙ ap (λ n. (run (most_in file) page.version n 1 front).rows) (sym number_is)
        ∙ no_rows (most_in file) page.version (number_of front) 1 front m read

    pub first_run : (row : PageRow) → row_at page 1 file ≡ Ok row → row.number < 2 ^ 64 → 1 ≤ page.state.length → IsFirstRun file (run_from page row.number)
    first_run row read fits some =
        let took = element_took page.version (number_of front) 1 front row read in
        let number : row.number ≡ number_of (drop 1 file) = took.row_number ∙ number_is in
        let limit = min page.state.length (2 ^ 64 - row.number) in
        let more : limit ≡ suc (limit - 1) = grind (arith, fits, some) in
        let bytes : 0 < length front = omega (arith, took.within) in
        let here : element_at page.version row.number 1 front ≡ Ok row = ap (λ n. element_at page.version n 1 front) took.row_number ∙ read in
        let all : (run limit page.version row.number 1 front).rows ≡ row ∷ (run (limit - 1) page.version (row.number + 1) (1 + total_of front) (drop (total_of front) front)).rows =
        ap (λ l. (run l page.version row.number 1 front).rows) more ∙ ap (λ (r : Run). r.rows) (run_with (limit - 1) page.version row.number 1 front (Ok row) bytes here) in
        record {
          is = record { whole = is.long; part = refl; within = some; numbers = grind (arith, fits) };
          rows = ap₂ (λ (k n : ℕ). (run (min k (2 ^ 64 - n)) page.version n 1 front).rows) is.long number ∙ sym is.rows;
          first = subst (FirstIs row.number) (sym all) refl;
        }
