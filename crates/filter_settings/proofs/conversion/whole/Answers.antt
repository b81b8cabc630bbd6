use Rattle.std.proofs.Common.{◌≡◌, ◌-◌, suc, pos, sym, ap, ◌∙◌, arith, rules, to_z, w64, SFits}
use Rattle.std.specs.Prelude.{int_div}
use Rattle.std.proofs.lemmas.Int.{ints, to_z-of_z, quot_fits}
use Rattle.filter_settings.specs.Convert.{fewer_digits}
use Rattle.filter_settings.proofs.conversion.whole.Goals as goal

pub loop-places-preserved : goal.loop-places-preserved
loop-places-preserved c =
    let m = to_z w64 c.loop-places.digits-bits in
    let f : SFits w64 m = search rules in
    let q : SFits w64 (int_div m (pos 10)) = quot_fits w64 m (pos 10) f (omega (arith, ints)) in
    let more : suc (c.loop-places.places - 1) ≡ c.loop-places.places = omega (arith, c.loop-places-test.true) in
    ap (fewer_digits (c.loop-places.places - 1)) (to_z-of_z w64 (int_div m (pos 10)) q) ∙ ap (λ k. fewer_digits k m) more ∙ c.loop-places.invariant
