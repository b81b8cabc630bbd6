use Rattle.std.proofs.Common.{sym, ◌∙◌}
use Rattle.std.proofs.lemmas.Result.{err_from_is_err_and}
use Rattle.element_code.proofs.Behind.{stops_first, stops_second, ends_so, not_whole, is_whole}
use Rattle.element_code.proofs.testing.test_event.Goals as goal

pub returns-in_err-behind-clause-reads : goal.returns-in_err-behind-clause-reads
returns-in_err-behind-clause-reads c =
    let p = err_from_is_err_and c.from_residual.result c.from_residual.ensures.1 in
    rw (p.1, p.2) (stops_first c.args.bytes.now c.in_err-behind.field-0.0 c.in_err-behind.ensures.reads)

pub returns-in_err-rest-clause-reads : goal.returns-in_err-rest-clause-reads
returns-in_err-rest-clause-reads c =
    let p = err_from_is_err_and c.from_residual-in_err-rest.result c.from_residual-in_err-rest.ensures.1 in
    rw (p.1, p.2) (stops_second c.args.bytes.now c.in_ok-behind.behind.now c.in_err-rest.field-0.0 c.in_ok-behind.ensures.reads c.in_err-rest.ensures.reads)

pub returns-then-not-is_empty-clause-reads : goal.returns-then-not-is_empty-clause-reads
returns-then-not-is_empty-clause-reads c =
    ends_so c.args.bytes.now c.in_ok-behind.behind.now c.in_ok-rest.rest.now c.in_ok-behind.ensures.reads c.in_ok-rest.ensures.reads
    ∙ not_whole c.in_ok-rest.rest.now (sym c.is_empty.ensures ∙ c.if-not-is_empty.true)

pub returns-clause-reads : goal.returns-clause-reads
returns-clause-reads c =
    ends_so c.args.bytes.now c.in_ok-behind.behind.now c.in_ok-rest.rest.now c.in_ok-behind.ensures.reads c.in_ok-rest.ensures.reads
    ∙ is_whole c.in_ok-rest.rest.now (sym c.is_empty.ensures ∙ c.if-not-is_empty.false)
