-- A page, as it is opened.
use Rattle.std.proofs.Common.{◌≡◌, inl, inr, ℕ, ◌+◌, ◌==◌, ◌≤◌, ◌<◌, nat_lt, true, false, List, ◌++◌, length, take, Option, Some, None, Result, Ok, Err, sym, ap, ◌∙◌, arith, refl, length-append, if◌then◌else◌}
use Rattle.std.proofs.lemmas.Bool.{cond-true, cond-false, cases_lt, eqb-true}
use Rattle.std.proofs.lemmas.Bool.Decides.{nat_tests}
use Rattle.crc_frame.proofs.Fronts.{chosen}
use Rattle.io_traits.specs.declared.pages.PageState.{PageState}
use Rattle.queue_page.specs.Elements.{misfit, and_then}
use Rattle.queue_page.specs.Views.{PageView}
use Rattle.queue_page.specs.Runs.{Run}
use Rattle.queue_page.specs.Pages.{PageRows, recorded, recorded_view, counted, counted_by, counted_view, is_version, version_of, within, view_of, with_run, run_behind, behind_view, extended, opened_view}
use Rattle.queue_page.specs.declared.fault.Mismatch.{Mismatch}

abbrev seen_page : PageView → Result PageView Mismatch
seen_page page = Ok page

abbrev plain : ℕ → PageState → PageView
plain version state = record { version = version; state = state }

module _ (s : PageState) (file : List ℕ) where
  abbrev view : Result PageRows Mismatch → Result PageView Mismatch
  view read = and_then read (λ page. Ok (view_of s page))

  recorded_if : recorded s file ≡ (if nat_lt (length file) s.length then Err (misfit (length file) (length file) s.length)
      else (if is_version (version_of (take s.length file)) then counted s (version_of (take s.length file)) (within s (take s.length file)) else Err (misfit 0 (version_of (take s.length file)) 2)))
  unfolding recorded
  recorded_if = refl

  pub recorded_short : (len : ℕ) → len ≡ length file → len < s.length → recorded_view s file ≡ Err (misfit len len s.length)
  recorded_short len is short =
      let t : nat_lt (length file) s.length ≡ true = grind (arith, nat_tests, short, is) in
      ap view (recorded_if ∙ cond-true _ _ _ t) ∙ ap (λ n. Err (misfit n n s.length)) (sym is)

  long_if : s.length ≤ length file → recorded s file ≡ (if is_version (version_of (take s.length file)) then counted s (version_of (take s.length file)) (within s (take s.length file)) else Err (misfit 0 (version_of (take s.length file)) 2))
  long_if long = let t : nat_lt (length file) s.length ≡ false = grind (arith, nat_tests, long) in recorded_if ∙ cond-false _ _ _ t

  pub recorded_other : (version : ℕ) → s.length ≤ length file → version_of (take s.length file) ≡ version → is_version version ≡ false → recorded_view s file ≡ Err (misfit 0 version 2)
  recorded_other version long is other =
      ap view (long_if long ∙ cond-false _ _ _ (ap is_version is ∙ other)) ∙ ap (λ v. Err (misfit 0 v 2)) is

  pub recorded_version : (version : ℕ) → s.length ≤ length file → version_of (take s.length file) ≡ version → is_version version ≡ true → recorded_view s file ≡ counted_view s version (take s.length file)
  recorded_version version long is known =
      ap view (long_if long ∙ cond-true _ _ _ (ap is_version is ∙ known)) ∙ ap (λ v. counted_view s v (take s.length file)) is

abbrev ran : ℕ → Result ℕ Mismatch
ran n = Ok n

pub ok_number : (a b : ℕ) → ran a ≡ ran b → a ≡ b
ok_number a b h = cc

-- ---- the head page, with the run behind its extent

-- a page that was read, as rows
pub record Rows (s : PageState) (read : Result PageRows Mismatch) (page : PageView) : Type 0 where
  pub rows : PageRows
  pub is : read ≡ Ok rows
  pub seen : view_of s rows ≡ page

pub as_rows : (s : PageState) (read : Result PageRows Mismatch) (page : PageView) → and_then read (λ rows. Ok (view_of s rows)) ≡ Ok page → Rows s read page
as_rows s (Ok rows) page h = let made : seen_page (view_of s rows) ≡ seen_page page = h in let same : view_of s rows ≡ page = cc in record { rows = rows; is = refl; seen = same }
as_rows s (Err m) page h = absurd cc

with_more : (s : PageState) (rows : PageRows) (page : PageView) (file : List ℕ) → view_of s rows ≡ page → page.state ≡ s → view_of s (with_run rows (run_behind s rows.version file)) ≡ behind_view page file
with_more s rows page file seen state =
    let more = run_behind s rows.version file in
    let counts : length rows.rows ≡ s.count = ap (λ (p : PageView). p.state.count) seen ∙ ap (λ (x : PageState). x.count) state in
    let count : length (rows.rows ++ more.rows) ≡ s.count + length more.rows = length-append rows.rows more.rows ∙ ap (λ n. n + length more.rows) counts in
    let version : rows.version ≡ page.version = ap (λ (p : PageView). p.version) seen in
    let made : plain rows.version s ≡ page = λ i. plain (version i) (sym state i) in
    ap (λ n. plain rows.version (record s { count = n; length = more.end })) count ∙ ap (λ (p : PageView). behind_view p file) made

pub opened_head : (s : PageState) (page : PageView) (file : List ℕ) → recorded_view s file ≡ Ok page → page.state ≡ s → opened_view true s file ≡ Ok (behind_view page file)
opened_head s page file read state =
    let r = as_rows s (recorded s file) page read in
    ap (λ x. and_then (and_then x (λ rows. Ok (extended true s file rows))) (λ rows. Ok (view_of s rows))) r.is ∙ ap Ok (with_more s r.rows page file r.seen state)

pub opened_tail : (s : PageState) (page : PageView) (file : List ℕ) → recorded_view s file ≡ Ok page → opened_view false s file ≡ Ok page
opened_tail s page file read = let r = as_rows s (recorded s file) page read in ap (λ x. and_then (and_then x (λ rows. Ok (extended false s file rows))) (λ rows. Ok (view_of s rows))) r.is ∙ ap Ok r.seen

-- ---- what a page that was read has

pub record RecordedTook (s : PageState) (file : List ℕ) (rows : PageRows) : Type 0 where
  pub long : s.length ≤ length file
  pub known : is_version (version_of (take s.length file)) ≡ true
  pub version_is : rows.version ≡ version_of (take s.length file)
  pub rows_are : rows.rows ≡ (within s (take s.length file)).rows
  pub stop : (within s (take s.length file)).stop ≡ None
  pub count : length rows.rows ≡ s.count
  pub length_is : rows.length ≡ s.length

pub recorded_long_if : (s : PageState) (file : List ℕ) → s.length ≤ length file
    → recorded s file ≡ (if is_version (version_of (take s.length file)) then counted s (version_of (take s.length file)) (within s (take s.length file)) else Err (misfit 0 (version_of (take s.length file)) 2))
recorded_long_if s file long = long_if s file long

record CountedTook (s : PageState) (version : ℕ) (found : Run) (stop : Option Mismatch) (rows : PageRows) : Type 0 where
  version_is : rows.version ≡ version
  rows_are : rows.rows ≡ found.rows
  stops : stop ≡ None
  count : length rows.rows ≡ s.count
  length_is : rows.length ≡ s.length

abbrev those : PageRows → Result PageRows Mismatch
those rows = Ok rows

abbrev counted_rows : PageState → ℕ → Run → PageRows
counted_rows s version found = record { version = version; rows = found.rows; length = s.length }

counted_took : (s : PageState) (version : ℕ) (found : Run) (stop : Option Mismatch) (rows : PageRows) → counted_by s version found stop ≡ Ok rows → CountedTook s version found stop rows
counted_took s version found (Some fault) rows h = absurd cc
counted_took s version found None rows h = elim (chosen (length found.rows == s.count) (those (counted_rows s version found)) (Err (misfit 0 (length found.rows) s.count)) (Ok rows) h) [
  | inr w ↦ let none : Err (misfit 0 (length found.rows) s.count) ≡ those rows = w.1 in absurd cc
  | inl w ↦
      let made : those (counted_rows s version found) ≡ those rows = w.1 in
      let same : counted_rows s version found ≡ rows = cc in
      record {
        version_is = ap (λ (r : PageRows). r.version) (sym same);
        rows_are = ap (λ (r : PageRows). r.rows) (sym same);
        stops = refl;
        count = ap (λ (r : PageRows). length r.rows) (sym same) ∙ eqb-true _ _ w.0;
        length_is = ap (λ (r : PageRows). r.length) (sym same);
      }
]

pub recorded_took : (s : PageState) (file : List ℕ) (rows : PageRows) → recorded s file ≡ Ok rows → RecordedTook s file rows
recorded_took s file rows h = elim (cases_lt (length file) s.length) [
  | inl short ↦
      let t : nat_lt (length file) s.length ≡ true = grind (arith, nat_tests, short) in
      let none : Err (misfit (length file) (length file) s.length) ≡ those rows = sym (recorded_if s file ∙ cond-true _ _ _ t) ∙ h in
      absurd cc
  | inr long ↦
      let version = version_of (take s.length file) in
      let found = within s (take s.length file) in
      elim (chosen (is_version version) (counted s version found) (Err (misfit 0 version 2)) (Ok rows) (sym (long_if s file long) ∙ h)) [
        | inr w ↦ let none : Err (misfit 0 version 2) ≡ those rows = w.1 in absurd cc
        | inl w ↦
            let took = counted_took s version found found.stop rows w.1 in
            record { long = long; known = w.0; version_is = took.version_is; rows_are = took.rows_are; stop = took.stops; count = took.count; length_is = took.length_is }
      ]
]

pub recorded_short_if : (s : PageState) (file : List ℕ) → length file < s.length → recorded s file ≡ Err (misfit (length file) (length file) s.length)
recorded_short_if s file short = let t : nat_lt (length file) s.length ≡ true = grind (arith, nat_tests, short) in recorded_if s file ∙ cond-true _ _ _ t
