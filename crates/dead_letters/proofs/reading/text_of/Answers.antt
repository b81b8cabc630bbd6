use Rattle.std.proofs.Common.{◌∙◌, sym, ap, Ok}
use Rattle.element_code.proofs.RowReads.{utf8_false}
use Rattle.dead_letters.proofs.LetterReads.{text_taken, text_refused}
use Rattle.dead_letters.proofs.reading.text_of.Goals as goal

pub returns-in_default : goal.returns-in_default
returns-in_default c = text_refused c.args.bytes.now c.in_ok-own.own.now c.in_ok-own.behind.now c.in_ok-own.ensures.reads (utf8_false c.in_ok-own.own.now c.in_default.ensures.cases.0)

pub returns : goal.returns
returns c =
    let same = c.in-Ok.ensures.cases.0 in
    text_taken c.args.bytes.now c.in_ok-own.own.now c.in_ok-own.behind.now c.in_ok-own.ensures.reads c.in-Ok.ensures.cases.1
    ∙ ap (λ k. Ok (k, c.in_ok-own.behind.now)) (sym (c.in_ok-of.ensures ∙ same))
