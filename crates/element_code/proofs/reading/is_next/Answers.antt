use Rattle.element_code.proofs.LastKeys.{decided}
use Rattle.element_code.proofs.reading.is_next.Goals as goal

pub returns-else-is_empty-clause-decided : goal.returns-else-is_empty-clause-decided
returns-else-is_empty-clause-decided c = decided c.args.fields.now c.args.key.now c.is_below.result c.members.ensures.rises c.is_below.ensures
