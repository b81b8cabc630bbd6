use Rattle.std.proofs.Common.{◌≡◌, ◌+◌, ◌-◌, length, get_or, subst, sym, ◌∙◌, arith, true}
use Rattle.config_lex.specs.Bytes.{passes}
use Rattle.config_lex.proofs.Scans.{run_on, run_stops, run_ends}
use Rattle.config_lex.proofs.bytes.run_end.Goals as goal

pub returns-then-not-passes-clause-end : goal.returns-then-not-passes-clause-end
returns-then-not-passes-clause-end c =
    omega (arith, c.loop-at.invariant.same, run_stops (passes c.args.test) c.args.bytes.now c.loop-at.at c.loop-at-test.true (sym c.passes.ensures ∙ c.if-not-passes.true))

pub loop-at-preserved : goal.loop-at-preserved
loop-at-preserved c =
    let b = c.args.bytes.now in
    let i = c.loop-at.at in
    let e : i + 1 - 1 ≡ i = omega arith in
    let passed = sym c.passes.ensures ∙ c.if-not-passes.false in
    record {
      same = omega (arith, c.loop-at.invariant.same, run_on (passes c.args.test) b i c.loop-at-test.true passed);
      last = λ _. subst (λ k. passes c.args.test (get_or b k 0) ≡ true) (sym e) passed;
    }

pub returns-clause-end : goal.returns-clause-end
returns-clause-end c =
    omega (arith, c.loop-at.invariant.same, c.loop-at.auto.at-end c.requires, c.loop-at-test.false, run_ends (passes c.args.test) c.args.bytes.now c.loop-at.at c.loop-at-test.false)

pub returns-clause-last : goal.returns-clause-last
returns-clause-last c =
    let b = c.args.bytes.now in
    let e : c.loop-at.at ≡ length b = omega (arith, c.loop-at.auto.at-end c.requires, c.loop-at-test.false) in
    λ h. subst (λ k. passes c.args.test (get_or b (k - 1) 0) ≡ true) e (c.loop-at.invariant.last (omega (arith, e, h)))
