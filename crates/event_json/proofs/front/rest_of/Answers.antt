use Rattle.event_json.proofs.Fronts.{rest_boundary}
use Rattle.event_json.proofs.front.rest_of.Goals as goal

pub range_from-requires : goal.range_from-requires
range_from-requires c = λ _. rest_boundary c.args.text.now c.args.rest.now c.utf8.text c.requires
