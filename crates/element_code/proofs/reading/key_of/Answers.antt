use Rattle.std.proofs.Common.{◌∙◌, sym, ap, Ok}
use Rattle.element_code.specs.Reading.{is_above, last_key}
use Rattle.element_code.proofs.Leaves.{key_taken, key_refused}
use Rattle.element_code.proofs.reading.key_of.Goals as goal

pub returns-in_default-clause-key : goal.returns-in_default-clause-key
returns-in_default-clause-key c = key_refused (last_key c.args.fields.now) c.args.bytes.now c.in_ok-own.own.now c.in_ok-own.behind.now c.in_ok-own.ensures.reads c.in_default.ensures

pub returns-clause-key : goal.returns-clause-key
returns-clause-key c =
    let same = c.in-Some.ensures.0 in
    let last = last_key c.args.fields.now in
    key_taken last c.args.bytes.now c.in_ok-own.own.now c.in_ok-own.behind.now c.in_ok-own.ensures.reads c.in-Some.ensures.1 (sym c.if-not-is_next.false ∙ c.is_next.ensures.decided ∙ ap (is_above last) same)
    ∙ ap (λ k. Ok (k, c.in_ok-own.behind.now)) (sym (c.in_ok-of.ensures ∙ same))
