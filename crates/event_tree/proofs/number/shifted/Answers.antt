use Rattle.std.proofs.Common.{◌-◌, sym, ◌∙◌, arith}
use Rattle.event_tree.specs.NumberTexts.{tens}
use Rattle.event_tree.proofs.Tens.{at_most_none, at_most_some}
use Rattle.event_tree.proofs.DecimalLemmas.{not_raised, not_lowered, raised_stands, lowered_stands}
use Rattle.event_tree.proofs.number.shifted.Goals as goal

pub returns-in-Some : goal.returns-in-Some
returns-in-Some c =
    let digits_are = (at_most_some c.most_digits.result (tens c.args.digits (c.args.up - c.args.down)) c.in-Some.digits (sym c.raised.ensures ∙ c.in-Some.is)).0 in
    raised_stands c.args.negative c.args.digits c.args.up c.args.down c.with_sign.result c.in-Some.digits c.with_sign.ensures.mantissa c.with_sign.ensures.scale c.if-down-up.true digits_are

pub returns-in-None : goal.returns-in-None
returns-in-None c =
    let big = at_most_none c.most_digits.result (tens c.args.digits (c.args.up - c.args.down)) (sym c.raised.ensures ∙ c.in-None.is) in
    λ n l f s. not_raised c.args.negative c.args.digits c.args.up c.args.down c.requires.trimmed n l f s c.if-down-up.true (omega (arith, big, c.most_digits.ensures))

pub returns-then-down-up-le18 : goal.returns-then-down-up-le18
returns-then-down-up-le18 c =
    lowered_stands c.args.negative c.args.digits c.args.up c.args.down c.with_sign-then-down-up-le18.result c.with_sign-then-down-up-le18.ensures.mantissa c.with_sign-then-down-up-le18.ensures.scale (omega (arith, c.if-down-up.false))

pub returns-else-down-up-le18 : goal.returns-else-down-up-le18
returns-else-down-up-le18 c = λ n l f s. not_lowered c.args.negative c.args.digits c.args.up c.args.down c.requires.trimmed n l f s (omega (arith, c.if-down-up-le18.false))
