use Rattle.std.proofs.Common.{sym, ap, ◌∙◌, length, arith}
use Rattle.event_json.specs.Stops.{unit_at}
use Rattle.event_json.proofs.Fronts.{rest_within}
use Rattle.event_json.proofs.Contents.{unit_rest}
use Rattle.event_json.proofs.string.unit_in.Goals as goal

pub rest_of-requires : goal.rest_of-requires
rest_of-requires c = unit_rest c.args.text.now c.in_ok-unit.rest.now c.in_ok-unit.unit (ap unit_at (sym c.as_bytes.ensures.value) ∙ c.in_ok-unit.ensures.unit)

pub returns-clause-shorter : goal.returns-clause-shorter
returns-clause-shorter c = omega (arith, ap length c.rest_of.ensures, rest_within c.args.text.now c.in_ok-unit.rest.now (unit_rest c.args.text.now c.in_ok-unit.rest.now c.in_ok-unit.unit (ap unit_at (sym c.as_bytes.ensures.value) ∙ c.in_ok-unit.ensures.unit)))
