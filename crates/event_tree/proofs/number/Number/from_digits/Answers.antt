use Rattle.std.proofs.Common.{◌≡◌, ◌++◌, length, true, nat_le, Some, None, option_and_then, sym, ap, ◌∙◌, arith, rules, SFits}
use Rattle.std.specs.Int.{w64}
use Rattle.std.proofs.lemmas.Int.{to_z-of_z}
use Rattle.std.proofs.lemmas.Bool.Decides.{nat_tests}
use Rattle.event_tree.specs.Number.{least}
use Rattle.event_tree.specs.NumberTexts.{number, signed, most}
use Rattle.event_tree.specs.Paths.{at_most}
use Rattle.event_tree.proofs.Tens.{numeral_is}
use Rattle.event_tree.proofs.number.Number.from_digits.Goals as goal

pub returns-in-Some : goal.returns-in-Some
returns-in-Some c =
    let n = c.args.negative in
    let w = c.args.whole.now in
    let p = c.args.places.now in
    let few : nat_le (length p) 18 ≡ true = grind (arith, nat_tests) in
    let within : at_most (most n) (Some (number 0 (w ++ p))) ≡ Some c.in-Some.digits = ap (λ k. at_most k (Some (number 0 (w ++ p)))) (sym c.most_digits.ensures) ∙ sym c.number_of.ensures ∙ c.in-Some.is in
    let fits : SFits w64 c.mantissa_of.result = search rules in
    c.new.ensures ∙ ap (λ m. least m (length p)) (to_z-of_z w64 c.mantissa_of.result fits ∙ c.mantissa_of.ensures) ∙ sym (numeral_is n w p few ∙ ap (option_and_then (λ k. least (signed n k) (length p))) within)

pub returns-in-None : goal.returns-in-None
returns-in-None c =
    let n = c.args.negative in
    let w = c.args.whole.now in
    let p = c.args.places.now in
    let few : nat_le (length p) 18 ≡ true = grind (arith, nat_tests) in
    let past : at_most (most n) (Some (number 0 (w ++ p))) ≡ None = ap (λ k. at_most k (Some (number 0 (w ++ p)))) (sym c.most_digits.ensures) ∙ sym c.number_of.ensures ∙ c.in-None.is in
    sym (numeral_is n w p few ∙ ap (option_and_then (λ k. least (signed n k) (length p))) past)
