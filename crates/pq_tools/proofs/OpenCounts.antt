-- How many rows a folder holds that was read.
use Rattle.std.proofs.Common.{◌≡◌, inl, inr, ⊎_elim, ℕ, zero, suc, ◌+◌, ◌-◌, ◌<◌, ◌^◌, nat_lt, Bool, true, false, List, [], ◌∷◌, length, map, Result, Ok, if◌then◌else◌, refl, sym, ◌∙◌, ap, arith}
use Rattle.std.proofs.Math.Path.{ap₂}
use Rattle.std.proofs.lemmas.Bool.{cases_lt}
use Rattle.std.proofs.lemmas.Bool.Decides.{nat_tests}
use Rattle.io_traits.specs.Reads.{bytes_of}
use Rattle.io_traits.specs.declared.pages.PageState.{PageState}
use Rattle.queue_page.specs.Views.{PageView}
use Rattle.queue_files.specs.Folders.{Folder, page}
use Rattle.queue_files.specs.Found.{Damaged, Found, Held, found, is_new}
use Rattle.queue_files.specs.Kept.{leading}
use Rattle.queue_files.proofs.NewFolders.{new_is_empty}
use Rattle.queue_files.specs.Known.{AreStated, IsFirst, IsOfFolder, IsReadOf}
use Rattle.queue_files.specs.declared.opening.OpenedQueue.{OpenedQueue}
use Rattle.queue_files.specs.declared.sealed_pages.SealedPage.{SealedPage}
use Rattle.queue_files.proofs.ScanReads.{found_rows, rows_found}
use Rattle.queue_files.proofs.StandingPages.{pages_are_found}
use Rattle.queue_core.specs.Opening.{below_number, page_opened, tails_opened, unread_in, unread_of}
use Rattle.queue_core.proofs.OpenedQueues.{unread_fits}
use Rattle.queue_core.proofs.OpenedRows.{all_count}
use Rattle.pq_tools.specs.Counts.{open_rows, rows_from, tail_rows}

-- ---- one page

-- of rows with consecutive numbers those below one are so many
below_count : (from number count : ℕ) → count - leading (below_number from number count) ≡ count - (from - number)
below_count from number zero = omega arith
below_count from number (suc count) = elim (cases_lt number from) [
  | inl less ↦
      let is : nat_lt number from ≡ true = grind (arith, nat_tests, less) in
      let led : leading (below_number from number (suc count)) ≡ suc (leading (below_number from (suc number) count)) =
      ap (λ (b : Bool). if b then suc (leading (below_number from (suc number) count)) else 0) is in
      omega (arith, led, below_count from (suc number) count, less)
  | inr more ↦
      let is : nat_lt number from ≡ false = grind (arith, nat_tests, more) in
      let led : leading (below_number from number (suc count)) ≡ 0 = ap (λ (b : Bool). if b then suc (leading (below_number from (suc number) count)) else 0) is in
      omega (arith, led, more)
]

-- ---- all pages

tails_count : (tails : List SealedPage) (views : List PageView) → tail_rows tails views ≡ unread_in (tails_opened [] tails views)
tails_count [] views = refl
tails_count (t ∷ tails) [] = refl
tails_count (t ∷ tails) (v ∷ views) = ap₂ (λ (a b : ℕ). a + b) (sym (below_count t.state.first_open v.state.least v.state.count)) (tails_count tails views)

rows_count : (o : OpenedQueue) → open_rows o ≡ unread_in (tails_opened [] o.pages.tails.items o.pages.pages.items) + unread_of (page_opened [] o.state.page o.turn o.state.first_open o.pages.top)
rows_count o = ap₂ (λ (a b : ℕ). a + b) (tails_count o.pages.tails.items o.pages.pages.items) (sym (below_count o.state.first_open o.pages.top.state.least o.pages.top.state.count))

pub rows_fit : (o : OpenedQueue) → AreStated o.state o.pages → open_rows o < 2 ^ 64
rows_fit o stated = omega (arith, rows_count o, unread_fits [] o stated)

module _ (f : Folder) (o : OpenedQueue) (stated : AreStated o.state o.pages) (rows : Found) (is : found f ≡ Ok rows) where
  ok_same : {x y : Found} → ◌≡◌ {A = Result Found Damaged} (Ok x) (Ok y) → x ≡ y
  ok_same same = cc

  new_count : is_new f ≡ true → IsFirst o → open_rows o ≡ length rows.rows
  new_count new first =
      let none : rows.rows ≡ [] = ap (λ (x : Found). x.rows) (ok_same (sym is ∙ new_is_empty f new)) in
      let count : o.pages.top.state.count ≡ 0 = ap (λ (p : PageView). p.state.count) first.top ∙ ap (λ (s : PageState). s.count) first.state in
      let no_tails : tail_rows o.pages.tails.items o.pages.pages.items ≡ 0 = ap (λ ts. tail_rows ts o.pages.pages.items) first.tails in
      omega (arith, ap length none, count, no_tails)

  abbrev top : Held
  top = record { number = o.state.page; state = o.state; bytes = bytes_of (f (page o.state.page)) }

  read_count : IsReadOf f o → open_rows o ≡ length rows.rows
  read_count reads =
      let s = reads.scanned in
      let numbers = map (λ (t : SealedPage). t.number) o.pages.tails.items in
      let rises = stated.rises f in
      let r = found_rows f o.state numbers o.pages.tails.items s.tails rises o.pages.pages.items s.pages o.pages.top s.top in
      let same : rows ≡ r.rows = ok_same (sym is ∙ pages_are_found f o.state numbers reads.tells reads.standing ∙ rows_found f o.state numbers o.pages.tails.items s.tails rises o.pages.pages.items s.pages o.pages.top r) in
      rows_count o ∙ sym (ap (λ (x : Found). length x.rows) same ∙ all_count [] f top o.state.page o.turn o.pages.top s.top o.pages.tails.items o.pages.pages.items r.rows r.reads s.pages)

  pub counted : IsOfFolder f o → open_rows o ≡ length rows.rows
  counted of = ⊎_elim (λ first. new_count first.0 first.1) (λ reads. read_count reads) of

-- ---- one page after the other

pub rows_more : (tails : List SealedPage) (views : List PageView) (t : SealedPage) (v : PageView) (rest : List SealedPage) (more : List PageView) → tails ≡ t ∷ rest → views ≡ v ∷ more → tail_rows tails views ≡ rows_from t.state.first_open v.state + tail_rows rest more
rows_more tails views t v rest more split parts = ap₂ (λ (ts : List SealedPage) (vs : List PageView). tail_rows ts vs) split parts
