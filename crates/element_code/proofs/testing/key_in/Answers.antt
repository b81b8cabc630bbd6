use Rattle.std.proofs.Common.{◌∙◌, sym, ap, Ok, option_map}
use Rattle.element_code.specs.Reading.{is_above}
use Rattle.element_code.proofs.Leaves.{key_taken, key_refused}
use Rattle.element_code.proofs.testing.key_in.Goals as goal

pub returns-in_default-clause-reads : goal.returns-in_default-clause-reads
returns-in_default-clause-reads c = key_refused (option_map (λ s. s.now) c.args.last) c.args.bytes.now c.in_ok-own.own.now c.in_ok-own.behind.now c.in_ok-own.ensures.reads c.in_default.ensures

pub returns-clause-reads : goal.returns-clause-reads
returns-clause-reads c =
    let same = c.in-Some.ensures.0 in
    let last = option_map (λ s. s.now) c.args.last in
    key_taken last c.args.bytes.now c.in_ok-own.own.now c.in_ok-own.behind.now c.in_ok-own.ensures.reads c.in-Some.ensures.1 (sym c.if-not-is_above.false ∙ c.is_above.ensures ∙ ap (is_above last) same)
    ∙ ap (λ k. Ok (k, c.in_ok-own.behind.now)) (sym same)
