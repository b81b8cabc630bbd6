use Rattle.line_outputs.proofs.Rejecting.{as_many}
use Rattle.line_outputs.proofs.laws.fates_are_as_many_as_events.Goals as goal

pub returns : goal.returns
returns c = as_many
