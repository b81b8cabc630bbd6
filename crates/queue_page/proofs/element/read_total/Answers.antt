use Rattle.std.proofs.Common.{◌-◌, sym, ◌∙◌, arith}
use Rattle.std.proofs.lemmas.Result.{err_from_is_err_and}
use Rattle.io_traits.specs.Reads.{bytes_of}
use Rattle.queue_page.specs.Blocks.{left_of}
use Rattle.queue_page.proofs.ElementReads.{tells_lost, told_head, head_in_front}
use Rattle.queue_page.proofs.element.read_total.Goals as goal

pub returns-in_err-fill-clause-total : goal.returns-in_err-fill-clause-total
returns-in_err-fill-clause-total g c = λ told part within.
    let p = err_from_is_err_and c.from_residual.result c.from_residual.ensures.1 in
    rw (p.1, p.2) (tells_lost (λ total. total) c.in_err-fill.field-0.0 _ c.in_err-fill.ensures.whole)

pub returns-in_err-total_at-clause-total : goal.returns-in_err-total_at-clause-total
returns-in_err-total_at-clause-total g c = λ told part within.
    let s = c.args.spot.now in
    let file = bytes_of (g.S.Store.seen c.args.store.now c.args.name.now) in
    let same = told_head file c.fill.new.self s.place s.end c.min.result c.window.result.now c.requires within c.min.ensures (c.in_ok-fill.ensures.front told part s.end (omega (arith, c.requires, c.min.ensures)) within) c.window.ensures in
    let p = err_from_is_err_and c.from_residual-in_err-total_at.result c.from_residual-in_err-total_at.ensures.1 in
    rw (p.1, p.2) (sym (head_in_front s.number s.place (s.end - s.place) c.window.result.now (left_of file s.place s.end) same) ∙ sym c.in_err-total_at.ensures.total)

pub returns-clause-total : goal.returns-clause-total
returns-clause-total g c = λ told part within.
    let s = c.args.spot.now in
    let file = bytes_of (g.S.Store.seen c.args.store.now c.args.name.now) in
    let same = told_head file c.fill.new.self s.place s.end c.min.result c.window.result.now c.requires within c.min.ensures (c.in_ok-fill.ensures.front told part s.end (omega (arith, c.requires, c.min.ensures)) within) c.window.ensures in
    sym (head_in_front s.number s.place (s.end - s.place) c.window.result.now (left_of file s.place s.end) same) ∙ sym c.in_ok-total_at.ensures.total
