-- A row of the head page that is kept is the one that would be read of its file.
use Rattle.std.proofs.Common.{◌≡◌, ◌<◌, ◌+◌, ◌-◌, ℕ, true, false, List, length, Ok, sym, ◌∙◌, subst}
use Rattle.queue_page.specs.Blocks.{left_of}
use Rattle.queue_page.specs.Elements.{element_at}
use Rattle.queue_page.specs.declared.row.PageRow.{PageRow}
use Rattle.queue_core.specs.Batching.{behind_row, is_over, place_in, rows_read}
use Rattle.queue_core.specs.Kept.{StandsIn}
use Rattle.queue_core.specs.Views.{OpenPageView}
use Rattle.queue_core.specs.declared.page_rows.BatchReader.{BatchReader}
use Rattle.queue_core.proofs.KeptLemmas.{kept_read}
use Rattle.queue_core.proofs.RowReads.{row_closes, row_more, rows_full}

module _ (o : OpenPageView) (file : List ℕ) (end place : ℕ) (r next : BatchReader) (row : PageRow) (there : place ≡ place_in o.page r) (less : r.number < end) (goes_on : is_over r ≡ false) (number : row.number ≡ r.number)
    (long : length file ≡ o.page.state.length) (stands : StandsIn o.page.version file (record { page = o.number; place = place; row = row })) (is : next ≡ behind_row o.from place row r) where
  read : element_at o.page.version r.number (place_in o.page r) (left_of file (place_in o.page r) o.page.state.length) ≡ Ok row
  read = subst (λ n. element_at o.page.version r.number n (left_of file n o.page.state.length) ≡ Ok row) there
      (subst (λ n. element_at o.page.version n place (left_of file place o.page.state.length) ≡ Ok row) number (kept_read o file (record { page = o.number; place = place; row = row }) long stands))

  behind : next ≡ behind_row o.from (place_in o.page r) row r
  behind = subst (λ n. next ≡ behind_row o.from n row r) there is

  pub kept_more : next.number ≡ r.number + 1 → rows_read o.file o.page o.from file (end - r.number) r ≡ rows_read o.file o.page o.from file (end - next.number) next
  kept_more more = row_more o.file o.page o.from file end r less goes_on row read next behind more

  pub kept_closes : is_over next ≡ true → rows_read o.file o.page o.from file (end - r.number) r ≡ rows_read o.file o.page o.from file (end - next.number) next
  kept_closes over = row_closes o.file o.page o.from file end r less goes_on row read next behind over ∙ sym (rows_full o.file o.page o.from file end next over)
