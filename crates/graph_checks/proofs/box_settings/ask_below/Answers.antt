use Rattle.std.proofs.Common.{◌-◌, arith, subst, Err}
use Rattle.foreign_parts.specs.Stocks.{AnswersAt, refusals_of}
use Rattle.graph_checks.specs.Boxes.{refused_below, unless_refused}
use Rattle.graph_checks.proofs.Handing.{made_handed}
use Rattle.graph_checks.proofs.Refusing.{below_refuses}
use Rattle.graph_checks.proofs.box_settings.ask_below.Goals as goal

pub returns-in_err-ask-clause-read : goal.returns-in_err-ask-clause-read
returns-in_err-ask-clause-read g c =
    let stand = g.B.Boxes.stand c.args.boxes.now c.args.kind in
    let name = c.args.plugin.now.name in
    let es = c.args.plugin.now.settings.list in
    let f = c.in_err-ask.field-0.0 in
    let at = c.loop-left.at in
    let whole = refused_below (refusals_of name stand.refusals) es c.args.next c.args.wanted in
    made_handed c.from_residual.result f (unless_refused whole) c.from_residual.ensures.1
    (below_refuses (refusals_of name stand.refusals) es at c.loop-left.left f whole (omega (arith, c.if-at-eq0.false)) (omega (arith, c.loop-left-test.true))
    (subst (λ st. AnswersAt (refusals_of name st.refusals) (at - 1) es (Err f)) (c.loop-left.invariant.0.stands c.args.kind)
    (subst (λ k. AnswersAt (refusals_of k (g.B.Boxes.stand c.loop-left.boxes c.args.kind).refusals) (at - 1) es (Err f)) c.as_str.ensures c.in_err-ask.ensures.answers))
    c.loop-left.invariant.2)
