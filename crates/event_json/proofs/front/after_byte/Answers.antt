use Rattle.std.proofs.Common.{sym, ◌∙◌, arith}
use Rattle.event_json.proofs.Fronts.{one_rest}
use Rattle.event_json.proofs.front.after_byte.Goals as goal

pub rest_of-requires : goal.rest_of-requires
rest_of-requires c = one_rest c.args.text.now c.in-Some.rest.now c.in-Some.first.now (sym c.as_bytes.ensures.value ∙ c.in-Some.ensures.cases.0) (omega arith)
