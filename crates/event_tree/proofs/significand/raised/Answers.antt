use Rattle.std.proofs.Common.{◌≡◌, ◌-◌, ◌*◌, suc, sym, ap, ◌∙◌, arith}
use Rattle.event_tree.specs.NumberTexts.{tens}
use Rattle.event_tree.proofs.Tens.{tens-ten, tens-le, at_most_past}
use Rattle.event_tree.proofs.significand.raised.Goals as goal

pub returns-then-raised-limit : goal.returns-then-raised-limit
returns-then-raised-limit c =
    let r = c.loop-left.raised in
    let l = c.loop-left.left - 1 in
    let s : suc l ≡ c.loop-left.left = omega (arith, c.loop-left-test.true) in
    let e : tens r (suc l) ≡ tens c.args.value c.args.zeros = ap (tens r) s ∙ c.loop-left.invariant.same in
    sym (at_most_past c.args.limit (tens c.args.value c.args.zeros) (omega (arith, e, tens-le r l, c.if-raised-limit.true)))

pub loop-left-preserved : goal.loop-left-preserved
loop-left-preserved c =
    let r = c.loop-left.raised in
    let l = c.loop-left.left - 1 in
    let s : suc l ≡ c.loop-left.left = omega (arith, c.loop-left-test.true) in
    let t : r * 10 ≡ 10 * r = omega arith in
    record {
      some = omega (arith, c.loop-left.invariant.some);
      within = omega (arith, c.if-raised-limit.false);
      same = ap (λ x. tens x l) t ∙ tens-ten r l ∙ ap (tens r) s ∙ c.loop-left.invariant.same;
    }
