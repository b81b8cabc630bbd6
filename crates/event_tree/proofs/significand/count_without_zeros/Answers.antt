use Rattle.std.proofs.Common.{◌≡◌, ◌<◌, ◌-◌, suc, length, take, sym, ap, ◌∙◌, arith}
use Rattle.event_tree.specs.NumberTexts.{number, tens}
use Rattle.event_tree.proofs.Tens.{number-zero, tens-ten}
use Rattle.event_tree.proofs.significand.count_without_zeros.Goals as goal

pub loop-count-preserved : goal.loop-count-preserved
loop-count-preserved c =
    let ds = c.args.digits.now in
    let i = c.loop-count.count - 1 in
    let s : suc i ≡ c.loop-count.count = omega (arith, c.loop-count-test.true) in
    let within : i < length ds = omega (arith, c.loop-count.invariant.within, c.loop-count-test.true) in
    let more : length ds - i ≡ suc (length ds - c.loop-count.count) = omega (arith, s, c.loop-count.invariant.within) in
    record {
      within = omega (arith, c.loop-count.invariant.within);
      zeros = λ n.
          c.loop-count.invariant.zeros n
          ∙ ap (λ k. tens (number n (take k ds)) (length ds - c.loop-count.count)) (sym s)
          ∙ ap (λ x. tens x (length ds - c.loop-count.count)) (number-zero n ds i within c.if-digits-count-eq48.true)
          ∙ tens-ten (number n (take i ds)) (length ds - c.loop-count.count)
          ∙ ap (tens (number n (take i ds))) (sym more);
    }
