use Rattle.std.proofs.Common.{◌-◌, ◌++◌, ◌∷◌, [], length, append_assoc, ap, ◌∙◌, arith}
use Rattle.event_json.specs.Json.{zeros}
use Rattle.event_json.proofs.Numbers.{pointed-few}
use Rattle.event_json.proofs.Written.{adds_two}
use Rattle.event_json.proofs.json.add_pointed.Goals as goal

pub returns-then-digits-places-clause-ok : goal.returns-then-digits-places-clause-ok
returns-then-digits-places-clause-ok c =
    let digits = c.args.digits.now in
    let whole = pointed-few c.args.places digits (omega arith) c.if-digits-places.true in
    adds_two c.add-then-digits-places-2.result (48 ∷ 46 ∷ zeros (c.args.places - length digits)) digits _ c.args.to.now.items c.add_zeros.new.to.items c.add-then-digits-places-2.new.to.items
    whole (c.in_ok-add_zeros.ensures.ok ∙ ap (λ l. l ++ zeros (c.args.places - length digits)) c.in_ok-add.ensures.ok ∙ append_assoc c.args.to.now.items (48 ∷ 46 ∷ []) (zeros (c.args.places - length digits))) c.add-then-digits-places-2.ensures.ok
