use Rattle.std.specs.Bool.{if◌then◌else◌}
use Rattle.std.proofs.Common.{◌≡◌, ◌≢◌, ◌+◌, ◌-◌, ◌%◌, ◌++◌, None, length, sym, ap, ◌∙◌, arith}
use Rattle.event_tree.specs.NumberTexts.{digit_count, number, raised_by, lowered_by}
use Rattle.event_tree.specs.DecimalViews.{as_decimal}
use Rattle.event_tree.proofs.Tens.{at_most_none, at_most_some}
use Rattle.event_tree.proofs.DecimalLemmas.{with_zeros, same_shift, not_above, no_exponent, zero_stands}
use Rattle.event_tree.proofs.number.value_of.Goals as goal

pub returns-in_default : goal.returns-in_default
returns-in_default c =
    let d = as_decimal c.args.digits.now in
    let sig = c.trimmed.ensures.significand in
    let m = number 0 (c.trimmed.result.0.now ++ c.trimmed.result.1.now) in
    let z = digit_count d.whole d.fraction - digit_count c.trimmed.result.0.now c.trimmed.result.1.now in
    let big = at_most_none c.most_digits.result m (sym c.number_of.ensures ∙ c.in_default.is) in
    let some : m ≢ 0 = λ e. absurd (omega (arith, big, e)) in
    with_zeros None d.negative _ m z (raised_by d) (lowered_by d) sig.0
    (λ n l f s. not_above d.negative m (z + raised_by d) (lowered_by d) (λ t. some (sig.1 t)) n l f s (omega (arith, big, c.most_digits.ensures)))

pub returns-then-value-eq0 : goal.returns-then-value-eq0
returns-then-value-eq0 c =
    let d = as_decimal c.args.digits.now in
    let v = at_most_some c.most_digits.result (number 0 (c.trimmed.result.0.now ++ c.trimmed.result.1.now)) c.in-Some.value (sym c.number_of.ensures ∙ c.in-Some.is) in
    zero_stands d.negative _ _ _ (raised_by d) (lowered_by d) c.with_sign.result c.trimmed.ensures.significand.0 c.with_sign.ensures.mantissa (sym v.0 ∙ c.if-value-eq0.true)

pub returns-in_default-number_behind : goal.returns-in_default-number_behind
returns-in_default-number_behind c =
    let d = as_decimal c.args.digits.now in
    let sig = c.trimmed.ensures.significand in
    let m = number 0 (c.trimmed.result.0.now ++ c.trimmed.result.1.now) in
    let z = digit_count d.whole d.fraction - digit_count c.trimmed.result.0.now c.trimmed.result.1.now in
    let v = at_most_some c.most_digits.result m c.in-Some.value (sym c.number_of.ensures ∙ c.in-Some.is) in
    let some : m ≢ 0 = λ e. c.if-value-eq0.false (v.0 ∙ e) in
    let big = at_most_none 1267650600228229401496703205376 (number 0 d.exponent) (sym c.number_behind.ensures ∙ c.in_default-number_behind.is) in
    with_zeros None d.negative _ m z (raised_by d) (lowered_by d) sig.0 (no_exponent d m z (λ t. some (sig.1 t)) (omega arith) (omega arith) (omega arith) big)

pub returns : goal.returns
returns c =
    let d = as_decimal c.args.digits.now in
    let sig = c.trimmed.ensures.significand in
    let m = number 0 (c.trimmed.result.0.now ++ c.trimmed.result.1.now) in
    let z = digit_count d.whole d.fraction - digit_count c.trimmed.result.0.now c.trimmed.result.1.now in
    let v = at_most_some c.most_digits.result m c.in-Some.value (sym c.number_of.ensures ∙ c.in-Some.is) in
    let exponent_is = (at_most_some 1267650600228229401496703205376 (number 0 d.exponent) c.in-Some-number_behind.exponent (sym c.number_behind.ensures ∙ c.in-Some-number_behind.is)).0 in
    let raise_is : c.exponents-raise.result.0 ≡ raised_by d = c.exponents-raise.ensures.raised ∙ ap (λ x. if d.lower then 0 else x) exponent_is in
    let lower_is : c.exponents-raise.result.1 ≡ (if d.lower then number 0 d.exponent else 0) = c.exponents-raise.ensures.lowered ∙ ap (λ x. if d.lower then x else 0) exponent_is in
    let up_is : c.count_of.result - c.count_of-2.result + c.exponents-raise.result.0 ≡ z + raised_by d = omega (arith, raise_is, c.count_of.ensures.same, c.count_of-2.ensures.same) in
    let down_is : length d.fraction + c.exponents-raise.result.1 ≡ lowered_by d = omega (arith, lower_is) in
    with_zeros c.shifted.result d.negative _ m z (raised_by d) (lowered_by d) sig.0 (same_shift c.shifted.result d.negative _ m _ _ _ _ v.0 up_is down_is c.shifted.ensures)

pub shifted-requires-clause-fits : goal.shifted-requires-clause-fits
shifted-requires-clause-fits c =
    let v = at_most_some c.most_digits.result (number 0 (c.trimmed.result.0.now ++ c.trimmed.result.1.now)) c.in-Some.value (sym c.number_of.ensures ∙ c.in-Some.is) in
    omega (arith, v.0, v.1, c.most_digits.ensures)

pub shifted-requires-clause-trimmed : goal.shifted-requires-clause-trimmed
shifted-requires-clause-trimmed c =
    let v = at_most_some c.most_digits.result (number 0 (c.trimmed.result.0.now ++ c.trimmed.result.1.now)) c.in-Some.value (sym c.number_of.ensures ∙ c.in-Some.is) in
    λ t. c.if-value-eq0.false (v.0 ∙ c.trimmed.ensures.significand.1 (ap (λ x. x % 10) (sym v.0) ∙ t))
