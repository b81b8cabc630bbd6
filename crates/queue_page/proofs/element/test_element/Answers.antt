use Rattle.std.proofs.Common.{◌-◌, ℕ, Ok, take, sym, ap, subst, ◌∙◌}
use Rattle.std.proofs.lemmas.Result.{err_from_is_err_and}
use Rattle.io_traits.specs.Reads.{bytes_of}
use Rattle.queue_page.specs.Blocks.{AreBytesIn, left_of, window_of}
use Rattle.queue_page.specs.Elements.{next_of}
use Rattle.queue_page.proofs.FileBytes.{of_frame}
use Rattle.queue_page.proofs.Fronts.{length-left}
use Rattle.queue_page.proofs.ElementReads.{tells_element, element_framed}
use Rattle.queue_page.proofs.element.test_element.Goals as goal

pub returns-in_err-total-clause-next : goal.returns-in_err-total-clause-next
returns-in_err-total-clause-next g c = λ told part within.
    let s = c.args.spot.now in
    let file = bytes_of (g.S.Store.seen c.args.store.now c.args.name.now) in
    let p = err_from_is_err_and c.from_residual.result c.from_residual.ensures.1 in
    rw (p.1, p.2) (tells_element (λ next. next) (λ row. Ok row.next) s.version s.number s.place (left_of file s.place s.end) (s.end - s.place) c.in_err-total.field-0.0 (sym (length-left file s.place s.end within)) (c.in_err-total.ensures.total told part within))

pub returns-in_err-next_in-clause-next : goal.returns-in_err-next_in-clause-next
returns-in_err-next_in-clause-next g c = λ told part within.
    let s = c.args.spot.now in
    let file = bytes_of (g.S.Store.seen c.args.store.now c.args.name.now) in
    let total = c.in_ok-total.ensures in
    let framed = element_framed s.version s.number s.place s.end c.in_ok-total.total file (window_of c.read_whole.new.block s.place s.end) c.window-bytes.result.now within (total.total told part within) c.window-bytes.ensures (total.frame told part within) in
    let p = err_from_is_err_and c.from_residual-in_err-next_in.result c.from_residual-in_err-next_in.ensures.1 in
    rw (p.1, p.2) (sym (c.in_err-next_in.ensures.next ∙ ap next_of framed))

pub returns-clause-next : goal.returns-clause-next
returns-clause-next g c = λ told part within.
    let s = c.args.spot.now in
    let file = bytes_of (g.S.Store.seen c.args.store.now c.args.name.now) in
    let total = c.in_ok-total.ensures in
    let framed = element_framed s.version s.number s.place s.end c.in_ok-total.total file (window_of c.read_whole.new.block s.place s.end) c.window-bytes.result.now within (total.total told part within) c.window-bytes.ensures (total.frame told part within) in
    sym (c.in_ok-next_in.ensures.next ∙ ap next_of framed)

pub returns-clause-bytes : goal.returns-clause-bytes
returns-clause-bytes g c = λ told part within.
    let s = c.args.spot.now in
    let file = bytes_of (g.S.Store.seen c.args.store.now c.args.name.now) in
    let total = c.in_ok-total.total in
    let same = ap (take total) c.window-bytes.ensures ∙ c.in_ok-total.ensures.frame told part within in
    subst (λ (n : ℕ). AreBytesIn s.place n file) (sym c.in_ok-next_in.ensures.behind) (of_frame file s.place s.end total (take total c.window-bytes.result.now) c.in_ok-total.ensures.within.1 same c.next_in.ensures.bytes)
