use Rattle.std.proofs.Common.{◌≡◌, ◌≤◌, length, ap, sym, ◌∙◌, arith}
use Rattle.config_parse.specs.Told.{placed}
use Rattle.config_parse.specs.declared.text.TheConstants.{LENGTH, LEVELS}
use Rattle.config_parse.proofs.Telling.{text_ok, text_err}
use Rattle.config_parse.proofs.text.parse_text.Goals as goal

pub returns-in-Ok : goal.returns-in-Ok
returns-in-Ok c =
    let l : length c.args.text.now ≤ LENGTH = omega (arith, c.if-text-gt-LENGTH.false) in
    text_ok LENGTH LEVELS c.args.text.now c.as_slice.result.now c.in-Ok.config (c.as_slice.ensures ∙ c.in_ok-found.ensures) l c.in-Ok.ensures

pub returns : goal.returns
returns c =
    let l : length c.args.text.now ≤ LENGTH = omega (arith, c.if-text-gt-LENGTH.false) in
    let p : c.place_of.result ≡ placed (length c.args.text.now) c.as_slice.result.now c.in-Err.fault = c.place_of.ensures ∙ ap (λ f. placed (length c.args.text.now) f c.in-Err.fault) (c.as_slice-in-Err.ensures ∙ sym c.as_slice.ensures) in
    rw p (text_err LENGTH LEVELS c.args.text.now c.as_slice.result.now c.in-Err.fault (c.as_slice.ensures ∙ c.in_ok-found.ensures) l c.in-Err.ensures)
