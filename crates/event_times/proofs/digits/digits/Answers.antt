use Rattle.std.proofs.Common.{rules, ◌≡◌, ◌<◌, ◌^◌, suc, ◌+◌, ◌-◌, ◌*◌, ◌∙◌, sym, subst, arith}
use Rattle.event_times.specs.Digits.{digits_behind}
use Rattle.event_times.proofs.DigitSteps.{no_more, no_digit, one_digit, all_digits}
use Rattle.event_times.proofs.Powers.{one_more, fits}
use Rattle.event_times.proofs.digits.digits.Goals as goal

pub returns-in_default-clause-value : goal.returns-in_default-clause-value
returns-in_default-clause-value c =
    let l = c.loop-left in
    no_more l.number l.left l.rest.now (search rules) (search rules) ∙ l.invariant.same

pub returns-then-not-is_ascii_digit-clause-value : goal.returns-then-not-is_ascii_digit-clause-value
returns-then-not-is_ascii_digit-clause-value c =
    let l = c.loop-left in
    no_digit l.number l.left c.in-Some.first.now l.rest.now c.in-Some.behind.now (search rules) (search rules) (search rules) ∙ l.invariant.same

pub overflow_mul-number : goal.overflow_mul-number
overflow_mul-number c =
    let l = c.loop-left in
    omega (arith, fits l.number 0 (c.args.count - l.left) (omega arith) l.invariant.within (omega arith))

pub overflow_add-number : goal.overflow_add-number
overflow_add-number c =
    let l = c.loop-left in
    let digit : c.from.result < 10 = search rules in
    omega (arith, fits l.number c.from.result (c.args.count - l.left) (omega arith) l.invariant.within digit)

pub loop-left-preserved : goal.loop-left-preserved
loop-left-preserved c =
    let l = c.loop-left in
    let digit : c.from.result < 10 = search rules in
    let more : c.args.count - (l.left - 1) ≡ suc (c.args.count - l.left) = omega arith in
    let value : c.from.result ≡ c.in-Some.first.now - 48 = search rules in
    record {
      few = omega arith;
      within = subst (λ k. 10 * l.number + c.from.result < 10 ^ k) (sym more) (one_more l.number c.from.result (c.args.count - l.left) l.invariant.within digit);
      same = subst (λ d. digits_behind (10 * l.number + d) (l.left - 1) c.in-Some.behind.now ≡ digits_behind 0 c.args.count c.args.text.now) (sym value)
          (sym (one_digit l.number l.left c.in-Some.first.now l.rest.now c.in-Some.behind.now (search rules) (search rules) (search rules) (l.left - 1) (omega arith)) ∙ l.invariant.same);
    }

pub returns-clause-value : goal.returns-clause-value
returns-clause-value c =
    let l = c.loop-left in
    all_digits l.number l.left l.rest.now (search rules) ∙ l.invariant.same
