use Rattle.std.proofs.Common.{List, ℕ, sym, ap, ◌∙◌, subst}
use Rattle.event_json.specs.Reading.{skip}
use Rattle.event_json.specs.Stops.{IsRest}
use Rattle.event_json.proofs.Rests.{space_rest}
use Rattle.event_json.proofs.read.unspaced.Goals as goal

pub rest_of-requires : goal.rest_of-requires
rest_of-requires c = subst (λ (r : List ℕ). IsRest c.args.text.now r) (sym (c.skip.ensures ∙ ap skip c.as_bytes.ensures.value)) (space_rest c.args.text.now)
