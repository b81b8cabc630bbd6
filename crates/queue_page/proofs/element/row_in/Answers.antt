use Rattle.std.proofs.Common.{Err, sym, ap, ◌∙◌}
use Rattle.std.proofs.lemmas.Result.{err_from_is_err_and}
use Rattle.queue_page.proofs.ElementReads.{frame_bad, code_row, code_refused}
use Rattle.queue_page.proofs.element.row_in.Goals as goal

pub returns-in_err-body-clause-row : goal.returns-in_err-body-clause-row
returns-in_err-body-clause-row c =
    let s = c.args.spot.now in
    let p = err_from_is_err_and c.from_residual.result c.from_residual.ensures.1 in
    rw (p.1, p.2) (frame_bad s.version s.number s.place c.args.frame.now c.in_err-body.ensures.differs.0 ∙ ap Err (sym c.in_err-body.ensures.differs.1))

pub returns-in-Ok-clause-row : goal.returns-in-Ok-clause-row
returns-in-Ok-clause-row c =
    let s = c.args.spot.now in
    code_row s.version s.number s.place c.args.frame.now c.in_ok-body.body.now (c.in-Ok.origin, c.in-Ok.event) c.in_ok-body.ensures.matches c.in_ok-body.ensures.body c.in-Ok.ensures

pub returns-in-Err-At-clause-row : goal.returns-in-Err-At-clause-row
returns-in-Err-At-clause-row c =
    let s = c.args.spot.now in
    let told = rw c.in-Err-At.field-0-is at c.in-Err-At.ensures in
    code_refused s.version s.number s.place c.args.frame.now c.in_ok-body.body.now c.in-Err-At.at c.in_ok-body.ensures.matches c.in_ok-body.ensures.body told.0 told.1
    ∙ ap Err (sym c.body_misfit.ensures)
