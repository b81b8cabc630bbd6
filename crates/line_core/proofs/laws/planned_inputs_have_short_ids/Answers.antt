use Rattle.line_core.proofs.ShortIds.{planned_are_short}
use Rattle.line_core.proofs.laws.planned_inputs_have_short_ids.Goals as goal

pub returns : goal.returns
returns c = planned_are_short
