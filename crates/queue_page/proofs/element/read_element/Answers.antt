use Rattle.std.proofs.Common.{◌-◌, ℕ, take, sym, ap, subst, ◌∙◌}
use Rattle.std.proofs.lemmas.Result.{err_from_is_err_and, IfOk-weaker}
use Rattle.io_traits.specs.Reads.{bytes_of}
use Rattle.queue_page.specs.Answers.{Tells}
use Rattle.queue_page.specs.Blocks.{AreBytesIn, left_of, window_of}
use Rattle.queue_page.specs.declared.row.PageRow.{PageRow}
use Rattle.queue_page.proofs.FileBytes.{of_frame}
use Rattle.queue_page.proofs.Fronts.{length-left}
use Rattle.queue_page.proofs.ElementReads.{tells_row, element_framed}
use Rattle.queue_page.proofs.element.read_element.Goals as goal

pub returns-in_err-total-clause-row : goal.returns-in_err-total-clause-row
returns-in_err-total-clause-row g c = λ told part within.
    let s = c.args.spot.now in
    let file = bytes_of (g.S.Store.seen c.args.store.now c.args.name.now) in
    let p = err_from_is_err_and c.from_residual.result c.from_residual.ensures.1 in
    rw (p.1, p.2) (tells_row s.version s.number s.place (left_of file s.place s.end) (s.end - s.place) c.in_err-total.field-0.0 (sym (length-left file s.place s.end within)) (c.in_err-total.ensures.total told part within))

pub returns-clause-row : goal.returns-clause-row
returns-clause-row g c = λ told part within.
    let s = c.args.spot.now in
    let file = bytes_of (g.S.Store.seen c.args.store.now c.args.name.now) in
    let total = c.in_ok-total.ensures in
    let result = c.row_in.result in
    let framed = element_framed s.version s.number s.place s.end c.in_ok-total.total file (window_of c.read_whole.new.block s.place s.end) c.window-bytes.result.now within (total.total told part within) c.window-bytes.ensures (total.frame told part within) in
    subst (λ read. Tells (λ (row : PageRow). row) result read) framed c.row_in.ensures.row

pub returns-clause-bytes : goal.returns-clause-bytes
returns-clause-bytes g c =
    IfOk-weaker c.row_in.result _ _
    (λ row next told part within.
    let s = c.args.spot.now in
    let file = bytes_of (g.S.Store.seen c.args.store.now c.args.name.now) in
    let total = c.in_ok-total.total in
    let same = ap (take total) c.window-bytes.ensures ∙ c.in_ok-total.ensures.frame told part within in
    subst (λ (n : ℕ). AreBytesIn s.place n file) (sym next) (of_frame file s.place s.end total (take total c.window-bytes.result.now) c.in_ok-total.ensures.within.1 same c.row_in.ensures.bytes))
    c.row_in.ensures.next
