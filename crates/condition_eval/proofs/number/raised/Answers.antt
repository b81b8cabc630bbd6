use Rattle.std.proofs.Common.{◌≡◌, ◌<◌, ◌-◌, ◌^◌, pos, ◌*ℤ◌, ap₂, ◌∙◌, rules}
use Rattle.condition_eval.proofs.Raising.{product}
use Rattle.condition_eval.proofs.number.raised.Goals as goal

pub returns : goal.returns
returns c =
    let small : c.pow-factor.result < 18446744073709551616 = search rules in
    let power : c.pow-factor.result ≡ 10 ^ (c.args.places - c.args.number.scale) = search rules in
    product c.from-2.result c.from-3.result c.mantissa.result c.pow-factor.result c.mantissa.type_inv small c.from-2.ensures c.from-3.ensures ∙ ap₂ (λ m p. m *ℤ pos p) c.mantissa.ensures power
