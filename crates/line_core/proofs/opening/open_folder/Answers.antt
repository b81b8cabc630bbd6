use Rattle.std.proofs.Common.{rules}
use Rattle.line_core.proofs.opening.open_folder.Goals as goal

pub returns-in-Err-Damaged-clause-damaged : goal.returns-in-Err-Damaged-clause-damaged
returns-in-Err-Damaged-clause-damaged g c = λ damage is told. c.open_on.ensures.damaged damage (search (is, c.in-Err-Damaged.is, c.in-Err-Damaged.field-0-is, rules)) told
