use Rattle.std.proofs.Common.{ap, ◌∙◌, sym}
use Rattle.event_tree.specs.Events.{event_at, event_take}
use Rattle.event_text.proofs.EventGets.{taken_gone, meta_emptied}
use Rattle.event_text.proofs.path_laws.what_is_taken_is_gone.Goals as goal

pub returns-clause-gone : goal.returns-clause-gone
returns-clause-gone c meta front key members value old new is found h = taken_gone meta front key members value old new is found h

pub returns-clause-empty : goal.returns-clause-empty
returns-clause-empty c way value old new whole h = ap (λ w. event_at w new) whole ∙ meta_emptied value old new (sym (ap (λ w. event_take w old) whole) ∙ h)
