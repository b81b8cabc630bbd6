use Rattle.event_text.proofs.EventGets.{taken_closed}
use Rattle.event_text.proofs.path_laws.lists_close_up.Goals as goal

pub returns : goal.returns
returns c item value old new stands h = taken_closed item.meta item.front item.part item.items item.place value old new stands.1 stands.0 h
