use Rattle.element_code.proofs.OnePlace.{spelled_at_none}
use Rattle.element_code.proofs.RowReads.{row_body_at_none}
use Rattle.element_code.proofs.laws.what_is_spelled_is_not_refused.Goals as goal

pub returns-clause-events : goal.returns-clause-events
returns-clause-events c = λ bytes at e w spelled short. spelled_at_none bytes at e w spelled short

pub returns-clause-rows : goal.returns-clause-rows
returns-clause-rows c = row_body_at_none
