use Rattle.std.proofs.Common.{Ok, sym, ap, ◌∙◌, arith}
use Rattle.std.proofs.lemmas.Result.{err_from_is_err_and}
use Rattle.io_traits.specs.Reads.{bytes_of}
use Rattle.queue_page.proofs.ElementReads.{tells_lost, told_head}
use Rattle.queue_page.proofs.element.read_number.Goals as goal

pub returns-in_err-fill-clause-number : goal.returns-in_err-fill-clause-number
returns-in_err-fill-clause-number g c = λ told part within.
    let p = err_from_is_err_and c.from_residual.result c.from_residual.ensures.1 in
    rw (p.1, p.2) (tells_lost (λ number. number) c.in_err-fill.field-0.0 _ c.in_err-fill.ensures.whole)

pub returns-clause-number : goal.returns-clause-number
returns-clause-number g c = λ told part within.
    let place = c.args.place in
    let end = c.args.end in
    let file = bytes_of (g.S.Store.seen c.args.store.now c.args.name.now) in
    let same = told_head file c.fill.new.self place end c.min.result c.window.result.now c.requires within c.min.ensures (c.in_ok-fill.ensures.front told part end (omega (arith, c.requires, c.min.ensures)) within) c.window.ensures in
    ap Ok (sym same.number ∙ sym c.number_in.ensures)
