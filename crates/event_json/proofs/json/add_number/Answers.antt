use Rattle.std.proofs.Common.{◌≡◌, ◌<◌, ◌+◌, ◌-◌, ◌^◌, ◌++◌, length, List, ℕ, unsigned_abs, ap, sym, ◌∙◌, subst, OnOk, rules, arith, SFits}
use Rattle.std.specs.Prelude.{decimal}
use Rattle.std.proofs.lemmas.Int.{to_z-of_z}
use Rattle.std.specs.Int.{w64}
use Rattle.std.proofs.lemmas.Fmt.{decimal_nonempty}
use Rattle.event_tree.specs.Adds.{Adds}
use Rattle.event_json.specs.Json.{zeros, pointed, sign_of, number_text}
use Rattle.std.proofs.lemmas.Int.{ints}
use Rattle.event_tree.specs.NumberTexts.{IsI64}
use Rattle.event_tree.proofs.Sounds.{number_true}
use Rattle.event_json.proofs.Numbers.{number_parts}
use Rattle.event_json.proofs.Written.{adds_two}
use Rattle.event_json.proofs.json.add_number.Goals as goal

pub add_pointed-requires-clause-some : goal.add_pointed-requires-clause-some
add_pointed-requires-clause-some c =
    subst (λ l. 0 < length l) (sym (c.as_bytes.ensures.value ∙ c.format-digits.ensures.text)) (decimal_nonempty c.unsigned_abs.result c.unsigned_abs.type_inv)

pub returns-clause-ok : goal.returns-clause-ok
returns-clause-ok c =
    let n = c.args.number.now in
    let fits : SFits w64 c.mantissa-2.result = search rules in
    let signed : SFits w64 c.mantissa.result = search rules in
    let digits : c.as_bytes.result.now ≡ decimal (unsigned_abs n.mantissa) = c.as_bytes.ensures.value ∙ c.format-digits.ensures.text ∙ ap decimal (c.unsigned_abs.ensures.value ∙ ap unsigned_abs (to_z-of_z w64 c.mantissa-2.result fits ∙ c.mantissa-2.ensures)) in
    let Rest : ℕ → List ℕ → Type 0 = λ s d. OnOk c.add_pointed.result (Adds (pointed s (zeros (s + 1 - length d) ++ d)) c.add_sign.new.to.items c.add_pointed.new.to.items) in
    adds_two c.add_pointed.result (sign_of n.mantissa) (pointed n.scale (zeros (n.scale + 1 - length (decimal (unsigned_abs n.mantissa))) ++ decimal (unsigned_abs n.mantissa))) _ c.args.to.now.items c.add_sign.new.to.items c.add_pointed.new.to.items
    (number_parts n)
    (subst (λ z. Adds (sign_of z) c.args.to.now.items c.add_sign.new.to.items) (to_z-of_z w64 c.mantissa.result signed ∙ c.mantissa.ensures) c.in_ok-add_sign.ensures.ok)
    (subst (Rest n.scale) digits (subst (λ s. Rest s c.as_bytes.result.now) c.scale-places.ensures.value c.add_pointed.ensures.ok))

pub returns-in_err-add_sign-clause-sound : goal.returns-in_err-add_sign-clause-sound
returns-in_err-add_sign-clause-sound c = number_true c.args.number.now (subst IsI64 c.mantissa.ensures (omega (arith, ints, c.mantissa.type_inv), omega (arith, ints, c.mantissa.type_inv))) c.scale-places.ensures.least

pub returns-clause-sound : goal.returns-clause-sound
returns-clause-sound c = number_true c.args.number.now (subst IsI64 c.mantissa.ensures (omega (arith, ints, c.mantissa.type_inv), omega (arith, ints, c.mantissa.type_inv))) c.scale-places.ensures.least
