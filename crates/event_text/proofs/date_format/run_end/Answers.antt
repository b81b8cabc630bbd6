use Rattle.std.proofs.Common.{sym, ◌∙◌, arith}
use Rattle.event_text.proofs.Runs.{run_ends, kind_cut, same_next}
use Rattle.event_text.proofs.date_format.run_end.Goals as goal

pub returns-then-kind-first-clause-run : goal.returns-then-kind-first-clause-run
returns-then-kind-first-clause-run c = run_ends c.args.bytes.now c.args.from c.loop-at.at (omega (arith, c.loop-at.auto.at)) (omega (arith, c.loop-at-test.true)) c.loop-at.invariant (λ _ e. c.if-kind-first.true (c.kind.ensures ∙ e ∙ sym c.kind-first.ensures))

pub returns-then-kind-first-clause-cut : goal.returns-then-kind-first-clause-cut
returns-then-kind-first-clause-cut c = kind_cut c.args.bytes.now c.args.from c.loop-at.at (omega (arith, c.loop-at.auto.at)) c.loop-at.invariant (λ e. c.if-kind-first.true (c.kind.ensures ∙ e ∙ sym c.kind-first.ensures))

pub loop-at-preserved : goal.loop-at-preserved
loop-at-preserved c = same_next c.args.bytes.now c.args.from c.loop-at.at c.loop-at.invariant (sym c.kind.ensures ∙ c.if-kind-first.false ∙ c.kind-first.ensures)

pub returns-clause-run : goal.returns-clause-run
returns-clause-run c = run_ends c.args.bytes.now c.args.from _ c.requires (omega arith) (λ k low high. c.loop-at.invariant k low (omega (arith, high, c.loop-at-test.false))) (λ h. absurd (omega (arith, h)))
