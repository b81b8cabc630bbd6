use Rattle.std.proofs.Common.{◌≡◌, max, FitsSigned, ap, ap₂, ◌∙◌, rules}
use mir.Syntax.{w128}
use Rattle.std.specs.Ordering.{int_cmp}
use Rattle.std.proofs.lemmas.Int.{to_z-of_z}
use Rattle.condition_eval.specs.Values as spec
use Rattle.condition_eval.proofs.number.number_order.Goals as goal

pub returns : goal.returns
unfolding spec.number_order
returns c =
    let places : c.most-places.result ≡ max c.args.left.scale c.args.right.scale = search rules in
    let fits : FitsSigned w128 c.raised.result = record { sfits = c.raised.type_inv } in
    let also : FitsSigned w128 c.raised-2.result = record { sfits = c.raised-2.type_inv } in
    c.cmp.ensures ∙ ap₂ int_cmp (to_z-of_z w128 c.raised.result fits ∙ c.raised.ensures ∙ ap (λ p. spec.raised p c.args.left) places) (to_z-of_z w128 c.raised-2.result also ∙ c.raised-2.ensures ∙ ap (λ p. spec.raised p c.args.right) places)
