use Rattle.std.proofs.Common.{sym, ap, ◌∙◌, subst, SFits, rules}
use Rattle.std.specs.Int.{w64}
use Rattle.std.proofs.lemmas.Int.{to_z-of_z}
use Rattle.event_tree.specs.Number.{least}
use Rattle.event_tree.specs.NumberTexts.{IsI64}
use Rattle.event_json.proofs.NumberLaws.{number_read_some, number_read_none, least_same}
use Rattle.event_json.proofs.read.number_of.Goals as goal

pub returns-in-Some : goal.returns-in-Some
returns-in-Some c =
    let signed : SFits w64 c.mantissa.result = search rules in
    let fits : IsI64 c.in-Some.number.mantissa = subst IsI64 c.mantissa.ensures (search rules) in
    c.new.ensures ∙ ap (λ m. least m c.scale.result) (to_z-of_z w64 c.mantissa.result signed ∙ c.mantissa.ensures) ∙ ap (least c.in-Some.number.mantissa) c.scale.ensures.value
    ∙ least_same c.in-Some.number c.scale.ensures.least ∙ sym (number_read_some c.args.text.now c.in-Some.number c.scale.ensures.least fits c.in-Some.ensures)

pub returns-in-None : goal.returns-in-None
returns-in-None c = sym (number_read_none c.args.text.now c.in-None.ensures)
