use Rattle.std.proofs.Common.{sym, ap, ◌∙◌}
use Rattle.event_json.specs.Reading.{after_number}
use Rattle.event_json.proofs.Fronts.{rest_within, rest_boundary}
use Rattle.event_json.proofs.Rests.{number_rest}
use Rattle.event_json.proofs.read.number.Goals as goal

pub overflow_sub-text : goal.overflow_sub-text
overflow_sub-text c = rest_within c.args.text.now c.in_ok-rest.rest.now (number_rest c.args.text.now c.in_ok-rest.rest.now (ap after_number (sym c.as_bytes.ensures.value) ∙ c.in_ok-rest.ensures))

pub range-requires-clause-end_boundary : goal.range-requires-clause-end_boundary
range-requires-clause-end_boundary c = rest_boundary c.args.text.now c.in_ok-rest.rest.now c.utf8.text (number_rest c.args.text.now c.in_ok-rest.rest.now (ap after_number (sym c.as_bytes.ensures.value) ∙ c.in_ok-rest.ensures))

pub rest_of-requires : goal.rest_of-requires
rest_of-requires c = number_rest c.args.text.now c.in_ok-rest.rest.now (ap after_number (sym c.as_bytes.ensures.value) ∙ c.in_ok-rest.ensures)
