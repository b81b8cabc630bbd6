use Rattle.std.proofs.Common.{Err, sym, ap, ◌∙◌}
use Rattle.std.proofs.lemmas.Result.{err_from_is_err_and}
use Rattle.queue_page.specs.Elements.{next_of}
use Rattle.queue_page.proofs.ElementReads.{frame_bad, code_row, code_refused}
use Rattle.queue_page.proofs.element.next_in.Goals as goal

pub returns-in_err-body-clause-next : goal.returns-in_err-body-clause-next
returns-in_err-body-clause-next c =
    let s = c.args.spot.now in
    let p = err_from_is_err_and c.from_residual.result c.from_residual.ensures.1 in
    rw (p.1, p.2) (ap Err c.in_err-body.ensures.differs.1 ∙ ap next_of (sym (frame_bad s.version s.number s.place c.args.frame.now c.in_err-body.ensures.differs.0)))

pub returns-in-None-clause-next : goal.returns-in-None-clause-next
returns-in-None-clause-next c =
    let s = c.args.spot.now in
    sym (ap next_of (code_row s.version s.number s.place c.args.frame.now c.in_ok-body.body.now c.in-None.ensures.0 c.in_ok-body.ensures.matches c.in_ok-body.ensures.body c.in-None.ensures.1))

pub returns-in-Some-clause-next : goal.returns-in-Some-clause-next
returns-in-Some-clause-next c =
    let s = c.args.spot.now in
    ap Err c.body_misfit.ensures
    ∙ sym (ap next_of (code_refused s.version s.number s.place c.args.frame.now c.in_ok-body.body.now c.in-Some.at c.in_ok-body.ensures.matches c.in_ok-body.ensures.body c.in-Some.ensures.0 c.in-Some.ensures.1))
