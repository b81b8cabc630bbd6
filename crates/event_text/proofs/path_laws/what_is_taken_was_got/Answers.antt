use Rattle.event_text.proofs.EventGets.{taken_got}
use Rattle.event_text.proofs.path_laws.what_is_taken_was_got.Goals as goal

pub returns : goal.returns
returns c way event some = taken_got way.meta way.parts event some
