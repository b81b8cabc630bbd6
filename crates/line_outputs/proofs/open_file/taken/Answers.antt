use Rattle.std.proofs.Common.{sym, ap, ◌∙◌, arith}
use Rattle.line_outputs.specs.OpenFiles.{file_place}
use Rattle.line_outputs.proofs.Finding.{all_left, found, not_found, removed}
use Rattle.line_outputs.proofs.Results.{on_err}
use Rattle.line_outputs.proofs.open_file.taken.Goals as goal

pub returns-then-at-len-clause-file : goal.returns-then-at-len-clause-file
returns-then-at-len-clause-file c =
    let at = c.place_of-at.ensures ∙ ap (file_place c.args.path.now) c.as_slice.ensures.value in
    found c.args.path.now c.args.files.now.items c.place_of-at.result at (omega (arith, c.if-at-len.true, c.len.ensures)) c.remove.result c.remove.ensures.value

pub returns-then-at-len-clause-rest : goal.returns-then-at-len-clause-rest
returns-then-at-len-clause-rest c =
    let at = c.place_of-at.ensures ∙ ap (file_place c.args.path.now) c.as_slice.ensures.value in
    c.remove.ensures.items ∙ removed c.args.path.now c.args.files.now.items c.place_of-at.result at (omega (arith, c.if-at-len.true, c.len.ensures))

pub returns-in_err-reserve-clause-none : goal.returns-in_err-reserve-clause-none
returns-in_err-reserve-clause-none c =
    let at = c.place_of-at.ensures ∙ ap (file_place c.args.path.now) c.as_slice.ensures.value in
    on_err c.from_residual.result (not_found c.args.path.now c.args.files.now.items c.place_of-at.result at (omega (arith, c.if-at-len.false, c.len.ensures)))

pub returns-clause-file : goal.returns-clause-file
returns-clause-file c =
    let at = c.place_of-at.ensures ∙ ap (file_place c.args.path.now) c.as_slice.ensures.value in
    sym (not_found c.args.path.now c.args.files.now.items c.place_of-at.result at (omega (arith, c.if-at-len.false, c.len.ensures)))

pub returns-clause-rest : goal.returns-clause-rest
returns-clause-rest c =
    let at = c.place_of-at.ensures ∙ ap (file_place c.args.path.now) c.as_slice.ensures.value in
    c.reserve.ensures.items ∙ sym (all_left c.args.path.now c.args.files.now.items c.place_of-at.result at (omega (arith, c.if-at-len.false, c.len.ensures)))
