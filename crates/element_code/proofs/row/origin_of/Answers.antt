use Rattle.std.proofs.Common.{◌∙◌, sym, ap, Ok}
use Rattle.element_code.proofs.RowReads.{origin_taken_as, origin_refused_as}
use Rattle.element_code.proofs.row.origin_of.Goals as goal

pub returns-in_default-clause-reads : goal.returns-in_default-clause-reads
returns-in_default-clause-reads c = origin_refused_as c.args.bytes.now c.in_ok-own.own.now c.in_ok-own.behind.now c.in_ok-own.ensures.reads c.in_default.ensures

pub returns-clause-reads : goal.returns-clause-reads
returns-clause-reads c =
    origin_taken_as c.args.bytes.now c.in_ok-own.own.now c.in_ok-own.behind.now c.in_ok-own.ensures.reads c.in-Some.ensures.1
    ∙ ap (λ k. Ok (k, c.in_ok-own.behind.now)) (sym c.in-Some.ensures.0)
